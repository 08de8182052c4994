-- What the pages of many callers show of their calls, round by round.
use Rattle.std.specs.Prelude.{◌≡◌, ◌⊎◌, ℕ, List, [], ◌++◌, slice_get, Some}
use mathlib.Core.List.{IsPrefix}
use Rattle.pass_book.specs.declared.entries.Entry.{Entry}
use Rattle.pass_book.specs.Histories.{entries_of, IsOfOthers}
use Rattle.pass_book.specs.Pages.{Page, IsPage}
use Rattle.script_text.specs.declared.scripts.Call.{Call}
use Rattle.script_text.specs.declared.replies.Reply.{Reply}
use Rattle.script_engine.specs.Replied.{Replied}

module _ {Asked Told : Type 0} where
  -- Between two rounds a caller has seen the history so far, which has all of its entries.
  pub record IsSynced (caller : ℕ) (history : List (Entry Asked Told)) (page : Page Asked Told) : Type 0 where
    pub begins : IsPrefix history page.seen
    pub whole : page.mine ≡ entries_of caller history
    pub own : IsPage caller page

  -- the same of each caller
  abbrev pub AreSynced : List (Entry Asked Told) → List (Page Asked Told) → Type 0
  AreSynced history pages = (caller : ℕ) (page : Page Asked Told) → slice_get pages caller ≡ Some page → IsSynced caller history page

module _ {Asked Told : Type 0} (Says : ℕ → Call → Reply → List (Entry Asked Told) → List (Entry Asked Told) → Type 0) where
  -- A caller's page before and after a call: what it has seen more is the call's stretch of the history.
  pub record Makes (caller : ℕ) (old : Page Asked Told) (call : Call) (reply : Reply) (new : Page Asked Told) : Type 0 where
    pub stretch : List (Entry Asked Told)
    pub seen : new.seen ≡ old.seen ++ stretch
    pub own : IsPage caller new
    pub says : Says caller call reply old.seen stretch

  -- What others did just before a call may be counted to its stretch.
  abbrev pub Widens : Type 0
  Widens = (caller : ℕ) (call : Call) (reply : Reply) (before gap stretch : List (Entry Asked Told)) → IsOfOthers caller gap
      → Says caller call reply (before ++ gap) stretch → Says caller call reply before (gap ++ stretch)

  -- A caller's page before a round, behind its calls, and once it has learnt of all others: the history so far has grown.
  pub record WentOn (caller : ℕ) (calls : List Call) (replies : List Reply) (history : List (Entry Asked Told)) (old mid new : Page Asked Told) : Type 0 where
    pub made : Replied (Makes caller) old calls replies mid
    pub told : (calls ≡ []) ⊎ IsPrefix mid.seen history
    pub mine : new.mine ≡ mid.mine
    pub begins : IsPrefix history new.seen
    pub own : IsPage caller new

-- A caller that takes in what another has seen has seen that too, and keeps its own entries.
pub record Informs {Asked Told : Type 0} (caller : ℕ) (giver old new : Page Asked Told) : Type 0 where
  pub mine : new.mine ≡ old.mine
  pub begins : IsPrefix old.seen new.seen
  pub told : IsPrefix giver.seen new.seen
  pub own : IsPage caller new
