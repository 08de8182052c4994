-- What a step of a known kind does to its caller's seat.
use Rattle.std.proofs.Common.{◌≡◌, ◌==◌, ℕ, Bool, true, false, cond, List, ◌++◌, ap, ◌∙◌, Option}
use Rattle.std.specs.Prelude.{MatchBool}
use Rattle.atomic_table.specs.Table.{Me}
use Rattle.segment_store.specs.Contents.{Contents}
use Rattle.seq_objects.specs.declared.bags.BagCall.{BagCall}
use Rattle.seq_objects.specs.declared.bags.BagReply.{BagReply}
use Rattle.seq_objects.specs.Meanings.{BagOpens}
use Rattle.seq_objects.specs.BagSteps.{BagStep}
use Rattle.pass_table.specs.declared.views.View.{View}
use Rattle.pass_table.specs.Terms.{seeing, moving}
use Rattle.pass_table.specs.Steps.{Steps, GoesTo, StaysTo}
use Rattle.pass_table.proofs.Going.{goes_to, stays_to}
use Rattle.shared_bag.specs.declared.layout.Word.{Word}
use Rattle.shared_bag.specs.declared.clients.Plan.{Plan}
use Rattle.shared_bag.specs.declared.clients.Hand.{Hand}
use Rattle.shared_bag.specs.declared.clients.Kind.{Kind}
use Rattle.shared_bag.specs.declared.clients.Kind.TheVariants.{CountLook, Claim, Put, Take, Steal, LeaveFound, LeaveChanged}
use Rattle.shared_bag.specs.Counted.{BagEntry}
use Rattle.shared_bag.specs.Rule.{bag_terms}
use Rattle.shared_bag.specs.Kinds.{Looks, Slots, Tells, TellsChosen, Does}

look_way : (b : Bool) (A B A' B' R : Type 0) → (A → A') → (B → B') → MatchBool b A (B × R) → MatchBool b A' (B' × R)
look_way true A B A' B' R f g p = f p
look_way false A B A' B' R f g q = (g q.0, q.1)

claim_way : (b : Bool) (A A' : Contents → Type 0) (B B' R S : Type 0) (Q : Contents → Type 0) → ((x : Contents) → A x → A' x) → (B → B')
    → MatchBool b ((x : Contents) × A x × Q x) (B × R × S) → MatchBool b ((x : Contents) × A' x × Q x) (B' × R × S)
claim_way true A A' B B' R S Q f g p = (p.0, f p.0 p.1, p.2)
claim_way false A A' B B' R S Q f g q = (g q.0, q.1, q.2)

module _ {K : Type 0} (keeps : K → ℕ → Type 0) (plan : Plan K) (c : ℕ) (sees sees' : Looks → List BagEntry → Hand → Slots → (List BagEntry → Type 0) → Type 0) (moves moves' : Hand → Slots → Type 0)
    (f : (looks : Looks) (entries : List BagEntry) (after : Hand) (slots : Slots) (Fact : List BagEntry → Type 0) → sees looks entries after slots Fact → sees' looks entries after slots Fact)
    (g : (after : Hand) (slots : Slots) → moves after slots → moves' after slots) (hand : Hand) (carried : Slots) where
  -- what a step tells, in other terms that follow
  tells_so : (kind : Kind) (found : ℕ) → Tells keeps plan c sees moves hand carried kind found → Tells keeps plan c sees' moves' hand carried kind found
  tells_so CountLook found told = look_way (found == 0) _ _ _ _ _ (f _ _ _ _ _) (f _ _ _ _ _) told
  tells_so (Claim segment) found told = claim_way (found == 0) _ _ _ _ _ _ _ (λ x. f _ _ _ _ _) (f _ _ _ _ _) told
  tells_so (Put item) found told = f _ _ _ _ _ told
  tells_so Take found told = (f _ _ _ _ _ told.0, told.1)
  tells_so (Steal moved) found told = (f _ _ _ _ _ told.0, told.1)
  tells_so LeaveFound found told = f _ _ _ _ _ told
  tells_so LeaveChanged found told = g _ _ told

module _ {K : Type 0} (keeps : K → ℕ → Type 0) (plan : Plan K) where
  pub does_of : (kind : Kind) (m : Me (Option Contents) (View BagCall BagReply (Plan K) Hand Word)) (found : ℕ) (n : Me (Option Contents) (View BagCall BagReply (Plan K) Hand Word))
      → Steps (bag_terms keeps) BagOpens BagStep plan (λ found e. TellsChosen keeps plan m.0.number m.0.part m.1 kind found e) m found n → Does keeps plan kind m found n
  does_of kind m found n steps =
      tells_so keeps plan m.0.number
      (λ looks entries after slots Fact. (h : List BagEntry) × (steps.effect ≡ seeing h looks entries after slots) × Fact h)
      (λ looks entries after slots Fact. (h : List BagEntry) × GoesTo (bag_terms keeps) BagOpens BagStep plan m n looks entries after slots × (n.0.seen ≡ h ++ entries) × Fact h)
      (λ after slots. (h : List BagEntry) × (steps.effect ≡ moving h after slots))
      (λ after slots. StaysTo (bag_terms keeps) BagOpens BagStep plan m n after slots)
      (λ looks entries after slots Fact so. (
        so.0,
        goes_to (bag_terms keeps) BagOpens BagStep plan _ m found n steps looks entries after slots (so.0, so.1),
        ap (λ x. x.0.seen) steps.after ∙ ap (λ e. cond e.sees (e.history ++ e.entries) m.0.seen) so.1,
        so.2,
      ))
      (λ after slots so. stays_to (bag_terms keeps) BagOpens BagStep plan _ m found n steps after slots so)
      m.0.part m.1 kind found steps.told
