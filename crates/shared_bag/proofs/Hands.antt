-- What a caller's step leaves as it was: what the others have in hand.
use Rattle.std.proofs.Common.{◌≡◌, ◌≢◌, ℕ, ◌+◌, ◌<◌, List, [], ◌∷◌, refl, ap, sym, ◌∙◌, subst, arith, inl, inr, ⊎_elim}
use mathlib.Core.Logic.{dite}
use native.Mathlib.Decide.{ℕ_discrete}
use Rattle.pass_table.specs.Terms.{put}
use Rattle.pass_table.proofs.Lists.{put_here, put_else}
use Rattle.shared_bag.specs.declared.clients.Holding.{Holding}
use Rattle.shared_bag.specs.declared.clients.Hand.{Hand}
use Rattle.shared_bag.specs.Rule.{IsAmong, IsAway, HoldsAll, HandFits}

-- no segment that another caller has is touched, and none becomes another's
pub record Touches (c : ℕ) (turn : ℕ → ℕ) (has : ℕ → List ℕ) (turn' : ℕ → ℕ) (has' : ℕ → List ℕ) : Type 0 where
  pub stays : (k o : ℕ) → o ≢ c → turn k ≡ o + 1 → (turn' k ≡ o + 1) × (has' k ≡ has k)
  pub comes : (k o : ℕ) → o ≢ c → turn' k ≡ o + 1 → turn k ≡ o + 1

module _ (c : ℕ) (turn : ℕ → ℕ) (has : ℕ → List ℕ) (turn' : ℕ → ℕ) (has' : ℕ → List ℕ) (touches : Touches c turn has turn' has') (n callers : ℕ) (below : c < callers) where
  holds_kept : (o : ℕ) (held : List Holding) → o ≢ c → HoldsAll turn has n o held → HoldsAll turn' has' n o held
  holds_kept o [] isnt holds = tt
  holds_kept o (h ∷ held) isnt holds =
      let stays = touches.stays h.segment o isnt holds.1 in
      (holds.0, stays.0, holds.2 ∙ sym stays.1, holds.3, holds_kept o held isnt holds.4)

  hand_kept : (o : ℕ) (hand : Hand) → o ≢ c → o < callers → HandFits turn has n callers o hand → HandFits turn' has' n callers o hand
  hand_kept o hand isnt less fits = record {
    holds = holds_kept o hand.held isnt fits.holds;
    only = λ k within named. fits.only k within (touches.comes k o isnt named);
    still = λ one. absurd (isnt (omega arith));
  }

  -- what all callers have in hand, where this one has gone on
  pub hands_kept : (parts : ℕ → Hand) (hand : Hand) → ((o : ℕ) → o < callers → HandFits turn has n callers o (parts o)) → HandFits turn' has' n callers c hand
      → (o : ℕ) → o < callers → HandFits turn' has' n callers o (put parts c hand o)
  hands_kept parts hand all own o less =
      dite (ℕ_discrete o c)
      (λ it. subst (λ k. HandFits turn' has' n callers k (put parts c hand k)) (sym it) (subst (HandFits turn' has' n callers c) (sym (put_here parts c hand c refl)) own))
      (λ isnt. subst (HandFits turn' has' n callers o) (sym (put_else parts c hand o isnt)) (hand_kept o (parts o) isnt less (all o less)))

-- a segment that is away is not among them
pub away_apart : (k j : ℕ) (held : List Holding) → IsAway k held → IsAmong j held → j ≢ k
away_apart k j [] away among is = among
away_apart k j (h ∷ held) away among is = ⊎_elim (λ here. away.0 (sym is ∙ here)) (λ there. away_apart k j held away.1 there is) among

-- what is in hand stays so, where the turns and the items of these segments do
pub holds_still : (turn turn' : ℕ → ℕ) (has has' : ℕ → List ℕ) (n c : ℕ) (held : List Holding) → ((k : ℕ) → IsAmong k held → (turn' k ≡ turn k) × (has' k ≡ has k)) → HoldsAll turn has n c held → HoldsAll turn' has' n c held
holds_still turn turn' has has' n c [] same holds = tt
holds_still turn turn' has has' n c (h ∷ held) same holds =
    let here = same h.segment (inl refl) in
    (holds.0, here.0 ∙ holds.1, holds.2 ∙ sym here.1, holds.3, holds_still turn turn' has has' n c held (λ k there. same k (inr there)) holds.4)

-- the turn of what is in hand names the caller
pub names_caller : (turn : ℕ → ℕ) (has : ℕ → List ℕ) (n c k : ℕ) (held : List Holding) → HoldsAll turn has n c held → IsAmong k held → turn k ≡ c + 1
names_caller turn has n c k [] holds among = absurd among
names_caller turn has n c k (h ∷ held) holds among = ⊎_elim (λ here. ap turn here ∙ holds.1) (λ there. names_caller turn has n c k held holds.4 there) among
