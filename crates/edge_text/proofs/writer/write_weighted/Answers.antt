use Rattle.std.proofs.Common.{◌≡◌, ◌≤◌, ◌+◌, ◌∙◌, ap, length, arith}
use Rattle.std.proofs.lemmas.Fmt.{length-decimal-le}
use Rattle.std.proofs.lemmas.List.{length_push}
use lib.Utf8.{encode}
use Rattle.edge_text.proofs.writer.write_weighted.Goals as goal

pub push-requires-3 : goal.push-requires-3
unfolding encode
push-requires-3 c =
    let from = length-decimal-le 8 c.args.edge.from (omega arith) (omega (arith, c.requires.0)) (omega (arith, c.requires.0)) in
    let to = length-decimal-le 8 c.args.edge.to (omega arith) (omega (arith, c.requires.1)) (omega (arith, c.requires.1)) in
    let gap : length c.push.new.self.bytes ≡ length c.push_str.new.self.bytes + 1 = ap length (c.push.ensures.ascii (omega arith)) ∙ length_push c.push_str.new.self.bytes 32 in
    let second : length c.push-2.new.self.bytes ≡ length c.push_str-2.new.self.bytes + 1 = ap length (c.push-2.ensures.ascii (omega arith)) ∙ length_push c.push_str-2.new.self.bytes 32 in
    let few : length c.push_str-3.new.self.bytes + 1 ≤ 32 =
    omega (arith, gap, second, ap length c.new-line.ensures, c.push_str.ensures.len, c.push_str-2.ensures.len, c.push_str-3.ensures.len, ap length c.format.ensures.text, ap length c.format-2.ensures.text, c.format-3.ensures.short) in
    (omega arith, few)
