-- What a pass knows between two calls.
use Rattle.std.specs.Prelude.{◌≡◌, ◌==◌, ◌<◌, ◌+◌, ◌&&◌, ℕ, Bool, true, false, not, ltb, List, [], ◌∷◌, is_some, is_none}
use Rattle.pgas_base.specs.declared.shapes.Shape.{Shape}
use Rattle.epoch_laws.specs.declared.tokens.Token.{Token}
use Rattle.epoch_laws.specs.Places.{Place, same_token}
use Rattle.epoch_laws.specs.Seats.{Seat, Phase as SeatPhase, Idle as IsIdle, Registered as IsRegistered, Pinned as IsPinned}
use Rattle.epoch_laws.specs.Words.{WordName}
use Rattle.pass_table.specs.declared.views.View.{View}
use Rattle.epoch_table.specs.declared.events.Happens.{Happens}
use Rattle.epoch_table.specs.declared.parts.Plan.{Plan}
use Rattle.epoch_table.specs.declared.parts.Part.{Part}
use Rattle.epoch_table.specs.Facts.{Facts, count_of}
use Rattle.epoch_table.specs.Layout.{token_place}
use Rattle.epoch_manager.specs.declared.phases.Phase.{Phase}
use Rattle.epoch_manager.specs.declared.phases.Phase.TheVariants.{Idle, Registered, Pinned}

abbrev pub is_nil : {A : Type 0} → List A → Bool
is_nil [] = true
is_nil (x ∷ xs) = false

abbrev pub is_idle : SeatPhase → Bool
is_idle IsIdle = true
is_idle phase = false

abbrev pub is_registered : SeatPhase → Bool
is_registered IsRegistered = true
is_registered phase = false

abbrev pub is_pinned : SeatPhase → Bool
is_pinned IsPinned = true
is_pinned phase = false

-- the seat of the machine stands so
abbrev pub stands_as : Seat → Phase → Bool
stands_as seat Idle = is_idle seat.phase
stands_as seat (Registered token) = is_registered seat.phase && same_token seat.token token
stands_as seat (Pinned token) = is_pinned seat.phase && same_token seat.token token

abbrev pub is_token : Shape → Token → Bool
is_token shape token = ltb token.locale shape.locales && ltb token.number shape.tokens

-- its token is one of the shape's
abbrev pub is_inside : Shape → Phase → Bool
is_inside shape Idle = true
is_inside shape (Registered token) = is_token shape token
is_inside shape (Pinned token) = is_token shape token

-- the word of its token stands there
abbrev pub is_placed : Shape → Phase → ℕ → Bool
is_placed shape Idle at = true
is_placed shape (Registered token) at = at == token_place shape token
is_placed shape (Pinned token) at = at == token_place shape token

-- no object is in the hand, on its way home or walked over, and no won exchange of a stack's head waits for its take
abbrev pub is_done : Seat → Bool → Bool
is_done seat won = is_nil seat.hand && (is_none seat.homing.tail && ((seat.homing.chain == 0) && (is_nil seat.reclaim.walked && not won)))

-- the object is one of the shape
abbrev pub is_place : Shape → Place → Bool
is_place shape p = ltb p.locale shape.locales && (ltb 0 p.index && ltb p.index (shape.objects + 1))

-- the objects are of the shape, and the count of each is known
abbrev pub are_known : Shape → Facts → List Place → Bool
are_known shape facts [] = true
are_known shape facts (p ∷ places) = (is_place shape p && is_some (count_of facts p)) && are_known shape facts places

-- only a pinned pass holds objects
abbrev pub may_hold : Phase → List Place → Bool
may_hold (Pinned token) held = true
may_hold phase held = is_nil held

-- nothing is under way, and what the pass owns and holds is known
pub record IsKept {View' : Type 0} (shape : Shape) (part : Part View') (phase : Phase) : Type 0 where
  pub done : is_done part.seat part.won ≡ true
  pub owned : are_known shape part.facts part.seat.owned ≡ true
  pub held : are_known shape part.facts part.seat.held ≡ true
  pub pinned : may_hold phase part.seat.held ≡ true

-- the pass is one of the callers', and its seat of the machine stands as its phase says
pub record PassFits {Self View' Call Reply : Type 0} (plan : Plan Self) (v : View (Happens Call Reply) (Unit {0}) (Plan Self) (Part View') WordName) (phase : Phase) : Type 0 where
  pub below : v.number < plan.callers
  pub stands : stands_as v.part.seat phase ≡ true
  pub inside : is_inside plan.shape phase ≡ true
  pub kept : IsKept plan.shape v.part phase
