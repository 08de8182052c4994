-- What stands of a script after some of its rounds.
use Rattle.std.specs.Prelude.{◌≡◌, ℕ, ◌<◌, List, [], length, map, slice_index_or, All}
use Rattle.std.specs.List.{flat_map}
use Rattle.pass_book.specs.declared.entries.Entry.{Entry}
use Rattle.pass_book.specs.Histories.{IsOfCallers}
use Rattle.pass_book.specs.Pages.{Page}
use Rattle.script_text.specs.declared.scripts.Call.{Call}
use Rattle.script_text.specs.declared.replies.Reply.{Reply}
use Rattle.script_text.specs.declared.replies.Replies.{Replies}
use Rattle.script_text.specs.Replies.{reply_lists, left_items}
use Rattle.script_engine.specs.declared.rounds.Worker.{Worker}
use Rattle.script_engine.specs.Answers.{AnswersRounds, AreJoined}
use Rattle.script_engine.specs.Numbers.{AreInOrder}
use Rattle.script_engine.specs.Rounds.{IsSynced}

module _ {Pass Asked Told : Type 0} (fits : Pass → Type 0) (caller : Pass → ℕ) (page : Pass → Page Asked Told) (Says : ℕ → Call → Reply → List (Entry Asked Told) → List (Entry Asked Told) → Type 0) where
  -- The worker is this caller's, has seen the history so far and has the replies to its calls of these rounds.
  pub record IsAt (of : ℕ) (history : List (Entry Asked Told)) (parts : List (List (List Reply))) (worker : Worker Pass) : Type 0 where
    pub number : caller worker.pass ≡ of
    pub fit : fits worker.pass
    pub synced : IsSynced of history (page worker.pass)
    pub replies : worker.replies.items ≡ flat_map (λ round. slice_index_or round of []) parts

  -- The rounds are answered, and each worker stands behind them.
  pub record HaveRun (rounds : List (List (List Call))) (workers : List (Worker Pass)) : Type 0 where
    pub history : List (Entry Asked Told)
    pub parts : List (List (List Reply))
    pub answers : AnswersRounds Says [] rounds parts history
    pub each : (k : ℕ) (d : Worker Pass) → k < length workers → IsAt k history parts (slice_index_or workers k d)

-- the calls of one caller, round after round
abbrev pub calls_of : ℕ → List (List (List Call)) → List Call
calls_of number rounds = flat_map (λ round. slice_index_or round number []) rounds

-- A round of so many callers, with calls that the object answers.
pub record IsAskedOf (asks : Call → Type 0) (callers : ℕ) (round : List (List Call)) : Type 0 where
  pub each : length round ≡ callers
  pub calls : All (All asks) round

-- The workers have these passes, and no reply yet.
pub record AreHired {Pass : Type 0} (passes : List Pass) (workers : List (Worker Pass)) : Type 0 where
  pub have : map (λ worker. worker.pass) workers ≡ passes
  pub unasked : All (λ worker. worker.replies.items ≡ []) workers

-- what the workers leave: their passes and their replies
pub record AreDismissed {Pass : Type 0} (workers : List (Worker Pass)) (passes : List Pass) (replies : List (List Reply)) : Type 0 where
  pub had : passes ≡ map (λ worker. worker.pass) workers
  pub got : replies ≡ map (λ worker. worker.replies.items) workers

-- the pass of each caller, in order of number, with an empty page
pub record AreNew {Pass Asked Told : Type 0} (fits : Pass → Type 0) (caller : Pass → ℕ) (page : Pass → Page Asked Told) (callers : ℕ) (passes : List Pass) : Type 0 where
  pub count : length passes ≡ callers
  pub fit : All fits passes
  pub number : AreInOrder caller passes
  pub empty : All (λ pass. page pass ≡ record { mine = []; seen = [] }) passes

-- One history has the calls of all rounds with their replies, and leaves this.
pub record HaveAnswered {Asked Told : Type 0} (Says : ℕ → Call → Reply → List (Entry Asked Told) → List (Entry Asked Told) → Type 0) (leaves : List (Entry Asked Told) → List ℕ → Type 0) (of : ℕ) (rounds : List (List (List Call))) (replies : Replies) : Type 0 where
  pub parts : List (List (List Reply))
  pub joined : AreJoined of parts (reply_lists replies)
  pub history : List (Entry Asked Told)
  pub answers : AnswersRounds Says [] rounds parts history
  pub callers : IsOfCallers of history
  pub left : leaves history (left_items replies.left)
