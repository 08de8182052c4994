use Rattle.std.proofs.Common.{◌≡◌, ◌≤◌, true, sym, subst, ap, ◌&&◌, ◌==◌, ◌∙◌, arith, ◌∷◌, []}
use Rattle.line_text.specs.Lines.{is_dot, MayJoin}
use Rattle.line_text.specs.States.{Leads}
use Rattle.line_text.specs.declared.states.State.TheVariants.{Joint, Number}
use Rattle.line_text.proofs.Steps.{number_dot}
use Rattle.line_text.proofs.states.joint_behind.Goals as goal

pub returns : goal.returns
returns g c =
    let G = g.F.Form.grammar in
    let form = c.args.form in
    let bounds = c.args.bounds in
    let value = c.args.value in
    let state = c.requires.state in
    let least : bounds.least ≤ value = omega arith in
    let joined : G.joined form ≡ true = cc in
    let dot : is_dot G form c.args.byte ≡ true = ap (λ b. G.joined form && (b == 46)) c.if-byte-ne46.false ∙ ap (λ j. j && true) joined in
    subst (λ next. (c.args.byte ≡ 10 → ⊥) × (g.F.Form.is_form next × MayJoin G next) × Leads G (Number form bounds value) (c.args.byte ∷ []) (Joint next)) (sym c.after_number.ensures) (
      c.requires.within,
      (g.met.F.Form.sound.number form bounds value state.0 state.1 least state.2.0, g.met.F.Form.sound.joins form bounds value state.0 state.1 least state.2.0 joined),
      number_dot G g.F.Form.is_form form bounds state.1 value c.args.byte c.requires.letter c.requires.other dot least state.2.0,
    )
