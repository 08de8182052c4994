use Rattle.std.proofs.Common.{◌≡◌, ◌+◌, ℕ, take, slice_index_or, List, ◌∷◌, [], ◌++◌, sym, ◌∙◌, subst, rules}
use Rattle.script_text.specs.declared.scripts.Call.TheVariants.{List as OfList}
use Rattle.script_text.specs.declared.replies.Reply.{Reply}
use Rattle.script_engine.specs.Replied.{Replied}
use Rattle.script_engine.specs.Rounds.{Makes}
use Rattle.seq_objects.specs.declared.lists.ListCall.TheVariants.{Read}
use Rattle.script_engine.proofs.Chains.{replied_next, stops_at}
use Rattle.script_engine.proofs.calls.make_each.Goals as goal

pub returns-in_err-make-clause-err : goal.returns-in_err-make-clause-err
returns-in_err-make-clause-err g c =
    let stopped =
    stops_at (g.O.Shared.gives c.args.object.now) (g.O.Shared.refuses c.args.object.now) c.args.pass.now c.loop-k.pass c.make.new.pass c.args.calls.now c.loop-k.k (OfList (Read 0)) c.loop-k.replies.items c.loop-k-test.true c.loop-k.invariant.gives c.in_err-make.ensures.err in
    search (rules, stopped)

pub loop-k-preserved : goal.loop-k-preserved
loop-k-preserved g c =
    let at = c.loop-k.invariant in
    let said = c.in_ok-make.ensures in
    let more : c.push_reserved.new.self.items ≡ c.loop-k.replies.items ++ c.in_ok-make.field-0 ∷ [] = search rules in
    let gives =
    replied_next (g.O.Shared.gives c.args.object.now) c.args.pass.now c.loop-k.pass c.make.new.pass c.args.calls.now c.loop-k.k (OfList (Read 0)) c.loop-k.replies.items c.in_ok-make.field-0 c.loop-k-test.true at.gives said.gives in
    let here =
    subst
    (λ (n : ℕ). Makes (g.O.Shared.says c.args.object.now) n (g.O.Shared.page c.loop-k.pass) (slice_index_or c.args.calls.now c.loop-k.k (OfList (Read 0))) c.in_ok-make.field-0 (g.O.Shared.page c.make.new.pass))
    at.same said.made in
    let made =
    replied_next (Makes (g.O.Shared.says c.args.object.now) (g.O.Shared.caller c.args.pass.now)) (g.O.Shared.page c.args.pass.now) (g.O.Shared.page c.loop-k.pass) (g.O.Shared.page c.make.new.pass) c.args.calls.now c.loop-k.k (OfList (Read 0)) c.loop-k.replies.items
    c.in_ok-make.field-0 c.loop-k-test.true at.made here in
    record {
      fit = said.pass.0;
      same = said.pass.1 ∙ at.same;
      gives = subst (λ (l : List Reply). Replied (g.O.Shared.gives c.args.object.now) c.args.pass.now (take (c.loop-k.k + 1) c.args.calls.now) l c.make.new.pass) (sym more) gives;
      made = subst (λ (l : List Reply). Replied (Makes (g.O.Shared.says c.args.object.now) (g.O.Shared.caller c.args.pass.now)) (g.O.Shared.page c.args.pass.now) (take (c.loop-k.k + 1) c.args.calls.now) l (g.O.Shared.page c.make.new.pass)) (sym more) made;
      room = search rules;
      count = search rules;
    }
