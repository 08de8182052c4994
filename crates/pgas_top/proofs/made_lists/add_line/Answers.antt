use Rattle.std.proofs.Common.{take, drop, sym, ◌∙◌}
use Rattle.std.proofs.lemmas.List.{take-append-drop}
use Rattle.std.proofs.lemmas.Result.{err_from_is_err_and}
use Rattle.pgas_top.proofs.made_lists.add_line.Goals as goal

pub returns-in_err-write_whole-clause-parts : goal.returns-in_err-write_whole-clause-parts
returns-in_err-write_whole-clause-parts g c =
    let p = err_from_is_err_and c.from_residual.result c.from_residual.ensures.1 in
    let piece = c.args.piece.now.bytes in
    let front = rw (c.as_bytes.ensures.value ∙ c.deref.ensures.0) at c.write_whole.ensures.front in
    rw (p.1) (take front.0 piece, front.2, (drop front.0 piece, sym (take-append-drop front.0 piece)))
