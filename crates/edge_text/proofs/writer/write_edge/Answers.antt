use Rattle.std.proofs.Common.{ℕ, ◌≡◌, ◌<◌, ◌≤◌, ◌+◌, ◌^◌, ◌∙◌, ap, length, arith}
use Rattle.std.specs.Fmt.{decimal}
use Rattle.std.proofs.lemmas.Fmt.{length-decimal-le}
use Rattle.std.proofs.lemmas.List.{length_push}
use lib.Utf8.{encode}
use Rattle.edge_text.proofs.writer.write_edge.Goals as goal

-- an id has at most eight digits
id_short : (id : ℕ) → id < 2 ^ 24 → length (decimal id) ≤ 8
id_short id small = length-decimal-le 8 id (omega arith) (omega arith) (omega arith)

pub push_str-requires-2 : goal.push_str-requires-2
push_str-requires-2 c =
    let from = id_short c.args.edge.from c.requires.0 in
    let to = id_short c.args.edge.to c.requires.1 in
    let gap : length c.push.new.self.bytes ≡ length c.push_str.new.self.bytes + 1 = ap length (c.push.ensures.ascii (omega arith)) ∙ length_push c.push_str.new.self.bytes 32 in
    let few : length c.push.new.self.bytes + length c.format-2.result.now ≤ 20 =
    omega (arith, gap, ap length c.new-line.ensures, c.push_str.ensures.len, ap length c.format.ensures.text, ap length c.format-2.ensures.text) in
    (omega arith, few)

pub push-requires-2 : goal.push-requires-2
unfolding encode
push-requires-2 c =
    let from = id_short c.args.edge.from c.requires.0 in
    let to = id_short c.args.edge.to c.requires.1 in
    let gap : length c.push.new.self.bytes ≡ length c.push_str.new.self.bytes + 1 = ap length (c.push.ensures.ascii (omega arith)) ∙ length_push c.push_str.new.self.bytes 32 in
    let few : length c.push_str-2.new.self.bytes + 1 ≤ 20 =
    omega (arith, gap, ap length c.new-line.ensures, c.push_str.ensures.len, c.push_str-2.ensures.len, ap length c.format.ensures.text, ap length c.format-2.ensures.text) in
    (omega arith, few)
