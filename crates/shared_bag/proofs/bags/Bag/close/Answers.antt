use Rattle.std.proofs.Common.{refl, ap, sym, ◌∙◌, arith}
use Rattle.seq_objects.specs.Meanings.{BagOpens}
use Rattle.seq_objects.specs.BagSteps.{BagStep}
use Rattle.pass_table.specs.Passes.{plan_of}
use Rattle.pass_table.proofs.LooksBack.{looked_back, still_of_opening}
use Rattle.shared_bag.specs.Shapes.{all_segments}
use Rattle.shared_bag.specs.Rule.{bag_terms}
use Rattle.shared_bag.proofs.LastStates.{first_shows, closed_size, closed_kept, closes_bag}
use Rattle.shared_bag.proofs.bags.Bag.close.Goals as goal

pub most_items-most-requires-clause-first : goal.most_items-most-requires-clause-first
most_items-most-requires-clause-first g c = first_shows g.K.Keeps.keeps _

pub returns-in_default-clause-err : goal.returns-in_default-clause-err
returns-in_default-clause-err g c =
    let T = bag_terms g.K.Keeps.keeps in
    let plan = plan_of c.args.self.table in
    let most = c.most_items-most.result in
    let looked = looked_back T BagOpens BagStep plan c.args.passes.len most c.args.passes.items c.as_mut_slice.result.now c.most_items-most.new.passes (omega (arith, c.args.passes.ok.0)) c.as_mut_slice.ensures.value c.most_items-most.ensures in
    (refl, (most, looked))

pub returns-in_default-clause-again : goal.returns-in_default-clause-again
returns-in_default-clause-again g c =
    let T = bag_terms g.K.Keeps.keeps in
    let t = c.args.self.table in
    let plan = plan_of t in
    let most = c.most_items-most.result in
    let looked = looked_back T BagOpens BagStep plan c.args.passes.len most c.args.passes.items c.as_mut_slice.result.now c.most_items-most.new.passes (omega (arith, c.args.passes.ok.0)) c.as_mut_slice.ensures.value c.most_items-most.ensures in
    (still_of_opening T BagOpens BagStep plan t most c.args.passes.items _ looked c.requires.opening, looked.many ∙ c.requires.count)

pub close-closed-requires-clause-opening : goal.close-closed-requires-clause-opening
close-closed-requires-clause-opening g c =
    let T = bag_terms g.K.Keeps.keeps in
    let t = c.args.self.table in
    let plan = plan_of t in
    let most = c.most_items-most.result in
    let looked = looked_back T BagOpens BagStep plan c.args.passes.len most c.args.passes.items c.as_mut_slice.result.now c.most_items-most.new.passes (omega (arith, c.args.passes.ok.0)) c.as_mut_slice.ensures.value c.most_items-most.ensures in
    still_of_opening T BagOpens BagStep plan t most c.args.passes.items _ looked c.requires.opening

pub close-closed-requires-clause-count : goal.close-closed-requires-clause-count
close-closed-requires-clause-count g c =
    let T = bag_terms g.K.Keeps.keeps in
    let t = c.args.self.table in
    let plan = plan_of t in
    let most = c.most_items-most.result in
    let looked = looked_back T BagOpens BagStep plan c.args.passes.len most c.args.passes.items c.as_mut_slice.result.now c.most_items-most.new.passes (omega (arith, c.args.passes.ok.0)) c.as_mut_slice.ensures.value c.most_items-most.ensures in
    looked.many ∙ c.requires.count

pub read_segments-items-requires-clause-room : goal.read_segments-items-requires-clause-room
read_segments-items-requires-clause-room g c =
    let T = bag_terms g.K.Keeps.keeps in
    let t = c.args.self.table in
    let plan = plan_of t in
    let most = c.most_items-most.result in
    let looked = looked_back T BagOpens BagStep plan c.args.passes.len most c.args.passes.items c.as_mut_slice.result.now c.most_items-most.new.passes (omega (arith, c.args.passes.ok.0)) c.as_mut_slice.ensures.value c.most_items-most.ensures in
    let segments = c.all_segments-segments.ensures.count ∙ ap all_segments (sym c.args.self.planned) in
    let few = closed_size g.K.Keeps.keeps t c.args.passes.items _ most looked _ _ c.close-closed.ensures.closes _ segments in
    (c.in-Ok.ensures.items, c.in-Ok.ensures.len, omega (arith, few, c.in-Ok.ensures.capacity))

pub returns-clause-ok : goal.returns-clause-ok
returns-clause-ok g c =
    let T = bag_terms g.K.Keeps.keeps in
    let t = c.args.self.table in
    let plan = plan_of t in
    let most = c.most_items-most.result in
    let looked = looked_back T BagOpens BagStep plan c.args.passes.len most c.args.passes.items c.as_mut_slice.result.now c.most_items-most.new.passes (omega (arith, c.args.passes.ok.0)) c.as_mut_slice.ensures.value c.most_items-most.ensures in
    let segments = c.all_segments-segments.ensures.count ∙ ap all_segments (sym c.args.self.planned) in
    closes_bag g.K.Keeps.keeps t c.args.passes.items _ most looked _ _ c.close-closed.ensures.closes _ segments c.args.self _ refl c.read_segments-items.ensures

pub returns-clause-kept : goal.returns-clause-kept
returns-clause-kept g c =
    let T = bag_terms g.K.Keeps.keeps in
    let t = c.args.self.table in
    let plan = plan_of t in
    let most = c.most_items-most.result in
    let looked = looked_back T BagOpens BagStep plan c.args.passes.len most c.args.passes.items c.as_mut_slice.result.now c.most_items-most.new.passes (omega (arith, c.args.passes.ok.0)) c.as_mut_slice.ensures.value c.most_items-most.ensures in
    let segments = c.all_segments-segments.ensures.count ∙ ap all_segments (sym c.args.self.planned) in
    closed_kept g.K.Keeps.keeps t c.args.passes.items _ most looked _ _ c.close-closed.ensures.closes _ segments _ c.read_segments-items.ensures
