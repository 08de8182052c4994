-- What a walk over a word that raises no fault tells of the word.
use Rattle.std.proofs.Common.{ℕ, ◌≡◌, refl, codes, Bool, true, false, List, Option, Some, None, [], ◌∷◌, ◌++◌, inl, inr}
use Rattle.std.specs.Prelude.{slice_get, ◌⊎◌}
use Rattle.std.specs.Str.{bytes_eq, chars}
use Rattle.clap.specs.Lexer.{long_of, short_of}
use Rattle.clap.specs.Kinds.{Kinds, or_else}
use Rattle.clap.specs.Faults.{flags_fault, long_fault, settle_fault, turn_fault, use_fault}
use Rattle.clap.specs.Walk.{Held, Row, Text, Walk, arg_by_long, bundle_met, has_row, settled, walked}
use Rattle.pgas_top.proofs.ClapSteps.{Edges, Seed, Vertices, Which, after_two, at, built_rule, name_of, top, waits}
use Rattle.pgas_top.proofs.ClapWords.{dashes}

-- a fault of two that is none
pub both_none : (a b : Kinds) → or_else a b ≡ [] → (a ≡ []) × (b ≡ [])
both_none [] b is = (refl, is)
both_none (k ∷ ks) b is = cc

-- behind `--` no word goes
abbrev pub trailing : Walk → Walk
trailing w = record w { is_trailing = true }

pub trailing_faults : (h : Held) (word : Text) → turn_fault top [] (trailing (at h)) word ≡ [] → ⊥
trailing_faults h word none = cc

pub trailing_wait_faults : (k : Which) (h : Held) (word : Text) → turn_fault top [] (trailing (waits k h)) word ≡ [] → ⊥
trailing_wait_faults k h word none = cc

pub walked_dashes : (h : Held) → walked top.rules [] (at h) dashes ≡ trailing (at h)
unfolding walked
walked_dashes h = refl

pub waited_dashes : (k : Which) (h : Held) → walked top.rules [] (waits k h) dashes ≡ trailing (waits k h)
unfolding walked
waited_dashes k h = refl

-- an option that waits for its value can't be settled
pub waits_unsettled : (k : Which) (h : Held) → settle_fault top.rules false (waits k h).held ≡ [] → ⊥
waits_unsettled Seed h none = cc
waits_unsettled Vertices h none = cc
waits_unsettled Edges h none = cc

-- a plain word goes only where a value is waited for
pub plain_faults : (h : Held) (word : Text) → bytes_eq word dashes ≡ false → long_of word ≡ None → short_of word ≡ None → turn_fault top [] (at h) word ≡ [] → ⊥
plain_faults h word dash long short none =
    let bad = rw (dash, long, short) at none in
    cc

pub waited_plain : (k : Which) (h : Held) (word : Text) → bytes_eq word dashes ≡ false → long_of word ≡ None → short_of word ≡ None → walked top.rules [] (waits k h) word ≡ at (after_two k word h)
unfolding walked
waited_plain Seed h word dash long short = rw (dash, long, short) refl
waited_plain Vertices h word dash long short = rw (dash, long, short) refl
waited_plain Edges h word dash long short = rw (dash, long, short) refl

-- what is held, with no flag of a bundle passed over
abbrev pub held : List Row → Option (Text × List Text) → Held
held rows pending = record { rows = rows; pending = pending; skip = 0 }

-- a bundle of flags doesn't go: there are no flags
pub short_faults : (rows : List Row) (pending : Option (Text × List Text)) (word : Text) (x : ℕ) (xs : Text) → bytes_eq word dashes ≡ false → long_of word ≡ None → short_of word ≡ Some (x ∷ xs) → turn_fault top [] (at (held rows pending)) word ≡ [] → ⊥
unfolding flags_fault bundle_met
short_faults rows pending word x xs dash long short none = either (slice_get (chars (x ∷ xs)) 0) refl
  where
    either : (c : Option ℕ) → slice_get (chars (x ∷ xs)) 0 ≡ c → ⊥
    either None is = let bad = rw (dash, long, short, is) at none in cc
    either (Some c) is = let bad = rw (dash, long, short, is) at none in cc

-- where a value is waited for, such a word is one, if it is no text
pub waited_short : (k : Which) (rows : List Row) (pending : Option (Text × List Text)) (word : Text) (x : ℕ) (xs : Text) → bytes_eq word dashes ≡ false → long_of word ≡ None → short_of word ≡ Some (x ∷ xs) → turn_fault top [] (waits k (held rows pending)) word ≡ []
    → walked top.rules [] (waits k (held rows pending)) word ≡ at (after_two k word (held rows pending))
unfolding walked flags_fault bundle_met
waited_short k rows pending word x xs dash long short none = either k (slice_get (chars (x ∷ xs)) 0) refl none
  where
    either : (k : Which) (c : Option ℕ) → slice_get (chars (x ∷ xs)) 0 ≡ c → turn_fault top [] (waits k (held rows pending)) word ≡ [] → walked top.rules [] (waits k (held rows pending)) word ≡ at (after_two k word (held rows pending))
    either Seed None is h = rw (dash, long, short, is) refl
    either Vertices None is h = rw (dash, long, short, is) refl
    either Edges None is h = rw (dash, long, short, is) refl
    either Seed (Some c) is h = let bad = rw (dash, long, short, is) at h in cc
    either Vertices (Some c) is h = let bad = rw (dash, long, short, is) at h in cc
    either Edges (Some c) is h = let bad = rw (dash, long, short, is) at h in cc

-- an option that isn't known doesn't go, and none does where a value is waited for
pub unknown_faults : (h : Held) (word name : Text) (value : Option Text) → bytes_eq word dashes ≡ false → long_of word ≡ Some (name, value) → arg_by_long top.rules name ≡ None → turn_fault top [] (at h) word ≡ [] → ⊥
unknown_faults h word name value dash long none_such none =
    let bad = rw (dash, long, none_such) at none in cc

long_unsettled : (k j : Which) (value : Option Text) (h : Held) → long_fault top.rules top.args_override_self (Some (built_rule j)) value (waits k h).held ≡ [] → ⊥
long_unsettled k Seed None h none = waits_unsettled k h none
long_unsettled k Vertices None h none = waits_unsettled k h none
long_unsettled k Edges None h none = waits_unsettled k h none
long_unsettled k Seed (Some v) h none = waits_unsettled k h (both_none _ (use_fault false (built_rule Seed) (v ∷ []) (settled top.rules (waits k h).held).rows) none).0
long_unsettled k Vertices (Some v) h none = waits_unsettled k h (both_none _ (use_fault false (built_rule Vertices) (v ∷ []) (settled top.rules (waits k h).held).rows) none).0
long_unsettled k Edges (Some v) h none = waits_unsettled k h (both_none _ (use_fault false (built_rule Edges) (v ∷ []) (settled top.rules (waits k h).held).rows) none).0

pub waited_long : (k : Which) (h : Held) (word name : Text) (value : Option Text) → bytes_eq word dashes ≡ false → long_of word ≡ Some (name, value) → ((j : Which) × (name ≡ name_of j) × (arg_by_long top.rules name ≡ Some (built_rule j))) ⊎ (arg_by_long top.rules name ≡ None) → turn_fault top [] (waits k h) word ≡ [] → ⊥
waited_long k h word name value dash long (inr none_such) none = let bad = rw (dash, long, none_such) at none in cc
waited_long k h word name value dash long (inl (j, named, is)) none =
    let none_here = rw (dash, long, is) at none in
    long_unsettled k j value h (both_none (long_fault top.rules top.args_override_self (Some (built_rule j)) value (waits k h).held) _ none_here).0

-- what no fault tells of an option in one word
two_none : (s u : Kinds) → or_else (or_else s u) [] ≡ [] → (s ≡ []) × (u ≡ [])
two_none s u none = both_none s u (both_none (or_else s u) [] none).0

fresh : (k : Which) (v : Text) (rows : List Row) → use_fault false (built_rule k) (v ∷ []) rows ≡ [] → has_row (name_of k) rows ≡ false
fresh k v rows none = either k (has_row (name_of k) rows) refl none
  where
    either : (k : Which) (b : Bool) → has_row (name_of k) rows ≡ b → use_fault false (built_rule k) (v ∷ []) rows ≡ [] → has_row (name_of k) rows ≡ false
    either k false is none = is
    either Seed true is none = let bad = rw is at none in cc
    either Vertices true is none = let bad = rw is at none in cc
    either Edges true is none = let bad = rw is at none in cc

told : (k : Which) (v : Text) (h : Held) → (settle_fault top.rules false h ≡ []) × (use_fault false (built_rule k) (v ∷ []) (settled top.rules h).rows ≡ []) → (settle_fault top.rules false h ≡ []) × (has_row (name_of k) (settled top.rules h).rows ≡ false)
told k v h none = (none.0, fresh k v (settled top.rules h).rows none.1)

pub told_one : (k : Which) (v : Text) (h : Held) → turn_fault top [] (at h) (codes "--" ++ name_of k ++ codes "=" ++ v) ≡ [] → (settle_fault top.rules false h ≡ []) × (has_row (name_of k) (settled top.rules h).rows ≡ false)
told_one Seed v h none = told Seed v h (two_none (settle_fault top.rules false h) (use_fault false (built_rule Seed) (v ∷ []) (settled top.rules h).rows) none)
told_one Vertices v h none = told Vertices v h (two_none (settle_fault top.rules false h) (use_fault false (built_rule Vertices) (v ∷ []) (settled top.rules h).rows) none)
told_one Edges v h none = told Edges v h (two_none (settle_fault top.rules false h) (use_fault false (built_rule Edges) (v ∷ []) (settled top.rules h).rows) none)

-- and of an option's name
pub told_name : (k : Which) (h : Held) → turn_fault top [] (at h) (codes "--" ++ name_of k) ≡ [] → settle_fault top.rules false h ≡ []
told_name Seed h none = (both_none (settle_fault top.rules false h) [] none).0
told_name Vertices h none = (both_none (settle_fault top.rules false h) [] none).0
told_name Edges h none = (both_none (settle_fault top.rules false h) [] none).0

pub told_two : (k : Which) (v : Text) (h : Held) → settle_fault top.rules false (after_two k v h) ≡ [] → has_row (name_of k) (settled top.rules h).rows ≡ false
told_two Seed v h none = fresh Seed v (settled top.rules h).rows none
told_two Vertices v h none = fresh Vertices v (settled top.rules h).rows none
told_two Edges v h none = fresh Edges v (settled top.rules h).rows none
