-- The word of an election is 0 or 1.
use Rattle.std.proofs.Common.{◌≡◌, ◌≢◌, ◌≤◌, ℕ, true, false, List, [], ◌∷◌, fold, arith}
use Rattle.epoch_laws.specs.declared.events.EpochEvent.TheVariants.{Registered, Unregistered, Pinned, Unpinned, Given, Shown, Held, Deferred, Freed, Returned}
use Rattle.epoch_laws.specs.declared.events.Item.{Item}
use Rattle.epoch_laws.specs.declared.events.Item.TheVariants.{Event, Advance, Claim, Leave}
use Rattle.epoch_laws.specs.Accounts.{Account, opening_account, account_after, account}
use Rattle.epoch_laws.specs.Places.{with_number}
use Rattle.epoch_laws.proofs.Updates.{at_number}

record AreMarks (a : Account) : Type 0 where
  one : a.election ≤ 1
  each : (l : ℕ) → a.election_of l ≤ 1

with_mark : (a : Account) (l mark : ℕ) → mark ≤ 1 → AreMarks a → AreMarks (record a { election_of = with_number a.election_of l mark })
with_mark a l mark low are = record { one = are.one; each = at_number (λ k x. x ≤ 1) a.election_of l mark low (λ k ne. are.each k) }

marks_after : (a : Account) (item : Item) → AreMarks a → AreMarks (account_after a item)
unfolding account_after
marks_after a (Event c (Registered t) tag) are = record { one = are.one; each = are.each }
marks_after a (Event c (Unregistered t) tag) are = record { one = are.one; each = are.each }
marks_after a (Event c (Pinned t) tag) are = record { one = are.one; each = are.each }
marks_after a (Event c (Unpinned t) tag) are = record { one = are.one; each = are.each }
marks_after a (Event c (Given q) tag) are = record { one = are.one; each = are.each }
marks_after a (Event c (Shown q) tag) are = record { one = are.one; each = are.each }
marks_after a (Event c (Held t q) tag) are = are
marks_after a (Event c (Deferred t q) tag) are = are
marks_after a (Event c (Freed q) tag) are = record { one = are.one; each = are.each }
marks_after a (Event c (Returned q) tag) are = record { one = are.one; each = are.each }
marks_after a (Advance c epoch) are = are
marks_after a (Claim c true) are = record { one = omega arith; each = are.each }
marks_after a (Claim c false) are = with_mark a (a.locale_of c) 1 (omega arith) are
marks_after a (Leave c true) are = record { one = omega arith; each = are.each }
marks_after a (Leave c false) are = with_mark a (a.locale_of c) 0 (omega arith) are

marks_then : (a : Account) (items : List Item) → AreMarks a → AreMarks (fold account_after a items)
marks_then a [] are = are
marks_then a (item ∷ items) are = marks_then (account_after a item) items (marks_after a item are)

are_marks : (count : ℕ) (items : List Item) → AreMarks (account count items)
unfolding account
are_marks count items = marks_then (opening_account count) items (record { one = omega arith; each = λ l. omega arith })

pub global_mark : (count : ℕ) (items : List Item) (word : ℕ) → word ≡ (account count items).election → word ≢ 0 → word ≡ 1
global_mark count items word is ne = let low = (are_marks count items).one in omega (arith, low, is, ne)

pub local_mark : (count : ℕ) (items : List Item) (l word : ℕ) → word ≡ (account count items).election_of l → word ≢ 0 → word ≡ 1
local_mark count items l word is ne = let low = (are_marks count items).each l in omega (arith, low, is, ne)
