-- The rule of a bag: the history leaves the items of all segments, at home or moved out, and each caller has in hand just the segments whose turns name it.
use Rattle.std.specs.Prelude.{◌≡◌, ◌≢◌, ◌⊎◌, ℕ, ◌+◌, ◌/◌, ◌<◌, ◌≤◌, Bool, true, false, List, [], ◌∷◌, length, slice_index, All, Option, Some}
use mathlib.Core.Option.{some}
use lib.ListN.{get_elem?}
use Rattle.segment_store.specs.Contents.{Contents}
use Rattle.seq_objects.specs.declared.bags.BagCall.{BagCall}
use Rattle.seq_objects.specs.declared.bags.BagReply.{BagReply}
use Rattle.pass_table.specs.Terms.{Terms, Moment}
use Rattle.shared_bag.specs.declared.shapes.Shape.{Shape}
use Rattle.shared_bag.specs.declared.layout.Word.{Word}
use Rattle.shared_bag.specs.declared.layout.Word.TheVariants.{Count}
use Rattle.shared_bag.specs.declared.clients.Plan.{Plan}
use Rattle.shared_bag.specs.declared.clients.Holding.{Holding}
use Rattle.shared_bag.specs.declared.clients.Found.{Found}
use Rattle.shared_bag.specs.declared.clients.Hand.{Hand}
use Rattle.shared_bag.specs.Shapes.{IsShape, all_segments}
use Rattle.shared_bag.specs.Layout.{turn_in, words_of, slot_place, slots_in}
use Rattle.shared_bag.specs.Counted.{BagEntry, LeavesItems, items_of, AddsKept, Shows}

-- what a slot has at home, or nothing where it is out with a seat
abbrev pub Homes : Type 0
Homes = List (mathlib.Core.Option.Option (Option Contents))

-- the segment stands in its slot with these items
abbrev pub IsHome : Homes → ℕ → List ℕ → Type 0
IsHome homes segment items = (spare : ℕ) × (get_elem? homes (slot_place segment) ≡ some (some (Some (record { items = items; spare = spare }))))

-- A segment has items, fitting and kept, as the steps on the count have made them. Its turn names one of the callers, or nobody, and then it is at home.
-- In a locale that has no caller it is empty
pub record SegmentFits (turn : ℕ → ℕ) (homes : Homes) (has : ℕ → List ℕ) (keeps : ℕ → Type 0) (shape : Shape) (segment : ℕ) : Type 0 where
  pub named : turn segment ≤ shape.callers
  pub home : turn segment ≡ 0 → IsHome homes segment (has segment)
  pub short : length (has segment) ≤ shape.room
  pub unused : shape.callers ≤ segment / shape.segments → has segment ≡ []
  pub kept : All keeps (has segment)

-- the segment is one of these
abbrev pub IsAmong : ℕ → List Holding → Type 0
IsAmong segment [] = ⊥
IsAmong segment (h ∷ held) = (segment ≡ h.segment) ⊎ IsAmong segment held

-- the segment is none of these
abbrev pub IsAway : ℕ → List Holding → Type 0
IsAway segment [] = Unit {0}
IsAway segment (h ∷ held) = (segment ≢ h.segment) × IsAway segment held

module _ (turn : ℕ → ℕ) (has : ℕ → List ℕ) (n caller : ℕ) where
  -- these are segments whose turns name the caller, each once and with its items
  abbrev pub HoldsAll : List Holding → Type 0
  HoldsAll [] = Unit {0}
  HoldsAll (h ∷ held) = (h.segment < n) × (turn h.segment ≡ caller + 1) × (h.items ≡ has h.segment) × IsAway h.segment held × HoldsAll held

-- a segment has as many items as a caller found there
abbrev pub IsStill : (ℕ → List ℕ) → Found → Type 0
IsStill has f = length (has f.segment) ≡ f.length

-- What a caller has in hand: just the segments whose turns name it. Where it is alone, the segments are still as it found them
pub record HandFits (turn : ℕ → ℕ) (has : ℕ → List ℕ) (n callers caller : ℕ) (hand : Hand) : Type 0 where
  pub holds : HoldsAll turn has n caller hand.held
  pub only : (segment : ℕ) → segment < n → turn segment ≡ caller + 1 → IsAmong segment hand.held
  pub still : callers ≡ 1 → All (IsStill has) hand.found

abbrev pub holds_none : List Holding → Bool
holds_none [] = true
holds_none (h ∷ held) = false

-- a caller that has no segment, and has found none
abbrev pub empty_hand : Hand
empty_hand = record { held = []; found = [] }

module _ {K : Type 0} where
  pub record BagRule (keeps : K → ℕ → Type 0) (plan : Plan K) (m : Moment (Option Contents) BagCall BagReply Hand) : Type 0 where
    pub has : ℕ → List ℕ
    pub shaped : IsShape plan.shape
    pub wide : length m.words ≡ words_of (all_segments plan.shape)
    pub shelf : length m.homes ≡ slots_in (all_segments plan.shape)
    pub calls_kept : All (λ (e : BagEntry). AddsKept (keeps plan.keeper) e.call) m.history
    pub leaves : LeavesItems m.history (items_of has (all_segments plan.shape))
    pub count : slice_index m.words 0 ≡ length (items_of has (all_segments plan.shape))
    pub segments : (segment : ℕ) → segment < all_segments plan.shape → SegmentFits (turn_in m.words) m.homes has (keeps plan.keeper) plan.shape segment
    pub hands : (c : ℕ) → c < plan.shape.callers → HandFits (turn_in m.words) has (all_segments plan.shape) plan.shape.callers c (m.parts c)

  -- what a bag brings to its table
  abbrev pub bag_terms : (K → ℕ → Type 0) → Terms (Option Contents) BagCall BagReply (List ℕ) (Plan K) Hand Word
  bag_terms keeps = record {
    start = λ plan. [];
    callers = λ plan. plan.shape.callers;
    first = empty_hand;
    rests = λ hand. holds_none hand.held;
    first_word = Count;
    size = λ n. n;
    shows = λ plan h name word. Shows h name word;
    holds = BagRule keeps;
  }
