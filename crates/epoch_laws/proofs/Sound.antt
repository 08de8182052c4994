-- What holds of every state that a run leaves.
use Rattle.std.proofs.Common.{◌≡◌, ℕ, ap, sym, subst}
use Rattle.epoch_laws.specs.declared.tokens.Token.{Token}
use Rattle.epoch_laws.specs.Places.{with_number}
use Rattle.epoch_laws.specs.Seats.{Seat}
use Rattle.epoch_laws.specs.States.{State}
use Rattle.epoch_laws.proofs.Updates.{part_kept, part_with}
use Rattle.epoch_laws.proofs.Timing.{timing, Clock, IsTimed}
use Rattle.epoch_laws.proofs.Paths.{ArePaths}
use Rattle.epoch_laws.proofs.Links.{IsLinked}
use Rattle.epoch_laws.proofs.Ages.{AreAged}
use Rattle.epoch_laws.proofs.Looks.{AreLooks}
pub use Rattle.epoch_laws.specs.Sound.{Phased, plain, phased, home_wait, Lists, lists, AreOf, AreLists, state_of, is_tagged, HasTag, Fits, AllFit, Map, clock, firsts_of, IsSound}
unfoldable pub use Rattle.epoch_laws.specs.Sound.{phased_at, home_wait_at}

-- what a seat has in common with another one
pub record IsSameSeat (a b : Seat) : Type 0 where
  pub phased : phased b ≡ phased a
  pub hand : b.hand ≡ a.hand
  pub owned : b.owned ≡ a.owned
  pub homing : b.homing ≡ a.homing
  pub stack : b.stack ≡ a.stack
  pub walked : b.reclaim.walked ≡ a.reclaim.walked

module _ (s : State) (m : Map) (sound : IsSound s m) (c : ℕ) (new : Seat) (same : IsSameSeat (s.seat c) new) where
  seat' : ℕ → Seat
  seat' = with_number s.seat c new

  pub lists_same : AreLists m.content (λ d. lists (with_number s.seat c new d))
  lists_same =
      subst (AreLists m.content)
      (sym (part_kept lists s.seat c new (λ i. record { hand = same.hand i; owned = same.owned i; walked = same.walked i; to_swap = (same.phased i).to_swap }))) sound.lists

  pub paths_same : ArePaths s.shape.locales m.link (firsts_of s.words (with_number s.seat c new)) m.content
  paths_same =
      subst (λ f. ArePaths s.shape.locales m.link (record { stack = λ l. (s.words.free_head l).index; home = s.words.home_head; taken = f; list = s.words.list_head; rest = λ d. (phased (with_number s.seat c new d)).rest }) m.content)
      (sym (part_kept (λ x. x.homing.chain) s.seat c new (ap (λ x. x.chain) same.homing)))
      (subst (λ f. ArePaths s.shape.locales m.link (record { stack = λ l. (s.words.free_head l).index; home = s.words.home_head; taken = λ d. (s.seat d).homing.chain; list = s.words.list_head; rest = f }) m.content)
      (sym (part_kept (λ x. (phased x).rest) s.seat c new (ap (λ x. x.rest) same.phased))) sound.paths)

  pub linked_same : IsLinked m.loc m.link s.words.next (λ d. home_wait (with_number s.seat c new d)) (λ d. (phased (with_number s.seat c new d)).list_wait) s.words.home_head
  linked_same =
      subst (λ f. IsLinked m.loc m.link s.words.next f (λ d. (phased (with_number s.seat c new d)).list_wait) s.words.home_head)
      (sym (part_kept home_wait s.seat c new (ap (λ x. home_wait_at x.tail x.old) same.homing)))
      (subst (λ f. IsLinked m.loc m.link s.words.next (λ d. home_wait (s.seat d)) f s.words.home_head)
      (sym (part_kept (λ x. (phased x).list_wait) s.seat c new (ap (λ x. x.list_wait) same.phased))) sound.linked)

  pub aged_same : (born : Token → ℕ) → AreAged s.shape s.words.epoch born s.tag m.loc (λ d. (phased (s.seat d)).collecting) (λ d. (phased (s.seat d)).deferring)
      → AreAged s.shape s.words.epoch born s.tag m.loc (λ d. (phased (with_number s.seat c new d)).collecting) (λ d. (phased (with_number s.seat c new d)).deferring)
  aged_same born aged =
      subst (λ f. AreAged s.shape s.words.epoch born s.tag m.loc f (λ d. (phased (with_number s.seat c new d)).deferring))
      (sym (part_kept (λ x. (phased x).collecting) s.seat c new (ap (λ x. x.collecting) same.phased)))
      (subst (λ f. AreAged s.shape s.words.epoch born s.tag m.loc (λ d. (phased (s.seat d)).collecting) f)
      (sym (part_kept (λ x. (phased x).deferring) s.seat c new (ap (λ x. x.deferring) same.phased))) aged)

  pub looks_same : AreLooks s.shape.locales (λ d. (with_number s.seat c new d).stack) s.words.free_head s.words.next
  looks_same =
      subst (λ f. AreLooks s.shape.locales f s.words.free_head s.words.next)
      (sym (part_kept (λ x. x.stack) s.seat c new same.stack)) sound.looks

  -- a step that has to do with tokens and epochs alone
  pub quiet : (epoch_of election_of : ℕ → ℕ) (election : ℕ) (word born : Token → ℕ)
      → IsTimed s.shape.locales s.shape.tokens (record { epoch = s.words.epoch; election = election; epoch_of = epoch_of; token_word = word; born = born }) (λ d. timing (with_number s.seat c new d))
      → AreAged s.shape s.words.epoch born s.tag m.loc (λ d. (phased (s.seat d)).collecting) (λ d. (phased (s.seat d)).deferring)
      → IsSound (record s { words = record s.words { epoch_of = epoch_of; election = election; election_of = election_of; token_word = word }; seat = with_number s.seat c new; born = born }) m
  quiet epoch_of election_of election word born timed aged = record {
    timed = timed;
    listed = sound.listed;
    lists = lists_same;
    fit = sound.fit;
    paths = paths_same;
    linked = linked_same;
    aged = aged_same born aged;
    looks = looks_same;
  }

  -- the seat's part in tokens and epochs
  pub retimed : (k : Clock) → IsTimed s.shape.locales s.shape.tokens k (with_number (λ d. timing (s.seat d)) c (timing new))
      → IsTimed s.shape.locales s.shape.tokens k (λ d. timing (with_number s.seat c new d))
  retimed k h = subst (IsTimed s.shape.locales s.shape.tokens k) (sym (part_with timing s.seat c new)) h
