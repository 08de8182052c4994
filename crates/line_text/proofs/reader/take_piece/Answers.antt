use Rattle.std.proofs.Common.{◌≡◌, ◌+◌, ◌≤◌, ◌^◌, ℕ, List, [], ◌∷◌, ◌++◌, length, ap, sym, ◌∙◌, arith, subst, append_assoc, length-append}
use Rattle.std.proofs.lemmas.Result.{err_from_is_err_and}
use Rattle.line_text.specs.Texts.{text_of, HasText}
use Rattle.line_text.proofs.Standings.{text_longer}
use Rattle.line_text.proofs.Sources.{limit_led, fault_behind}
use Rattle.line_text.proofs.reader.take_piece.Goals as goal

pub returns-in_err-place-clause-led : goal.returns-in_err-place-clause-led
returns-in_err-place-clause-led g c =
    let p = err_from_is_err_and c.from_residual.result c.from_residual.ensures.1 in
    let T = text_of g.F.Form.grammar g.D.Draft.rules in
    let within = c.in-Some.within.now in
    rw (p.1, p.2) (λ read room stands.
    let short : length read + length within ≤ 2 ^ 30 = omega (arith, room, c.requires.room, c.in-Some.ensures.cases.1) in
    fault_behind T read within c.args.piece.now c.in-Some.last.now _ c.in-Some.ensures.cases.0 (c.in_err-place.ensures.led read short stands))

pub returns-in-None-clause-led : goal.returns-in-None-clause-led
returns-in-None-clause-led g c = λ read room stands.
    let T = text_of g.F.Form.grammar g.D.Draft.rules in
    let within = c.in-Some.within.now in
    let short : length read + length within ≤ 2 ^ 30 = omega (arith, room, c.requires.room, c.in-Some.ensures.cases.1) in
    let led = c.in_ok-place.ensures.led read short stands in
    subst (λ (r : List ℕ). HasText T r ⊥ (g.D.Draft.progress c.take_bytes-2.new.draft)) (append_assoc read within (c.in-Some.last.now ∷ []) ∙ ap (λ (l : List ℕ). read ++ l) (sym c.in-Some.ensures.cases.0))
    (text_longer T (read ++ within) (c.in-Some.last.now ∷ []) ⊥ _ (rw c.in-None.is at led))

pub returns-in-Some-2-clause-led : goal.returns-in-Some-2-clause-led
returns-in-Some-2-clause-led g c = λ read room stands.
    let T = text_of g.F.Form.grammar g.D.Draft.rules in
    let within = c.in-Some.within.now in
    let short : length read + length within ≤ 2 ^ 30 = omega (arith, room, c.requires.room, c.in-Some.ensures.cases.1) in
    let size : length (read ++ within) ≡ 2 ^ 30 = omega (arith, room, c.requires.room, c.in-Some.ensures.cases.1, c.if-within-room.false, length-append read within) in
    let led = c.in_ok-place.ensures.led read short stands in
    let on = rw c.in-Some-2.is at led in
    limit_led T read within c.args.piece.now c.in-Some.last.now _ c.past_limit.result c.in-Some.ensures.cases.0 c.past_limit.ensures.end (c.past_limit.ensures.led (read ++ within) size on)
