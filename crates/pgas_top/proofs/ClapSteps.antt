-- What clap makes of the words of `make`.
use Rattle.std.proofs.Common.{ℕ, ◌≡◌, ◌==◌, refl, ap, ◌∙◌, codes, true, false, List, Some, None, [], ◌∷◌, ◌++◌}
use Rattle.std.specs.Prelude.{fold}
use Rattle.clap.specs.Walk.{Held, Row, Rule, Text, Walk, has_row, idle, option, settled, used, walked}
use Rattle.clap.specs.Simple.{Shape, built}
use Rattle.clap.specs.Takes.{settle_passes, turn_passes, walk_passes}
use Rattle.clap.specs.declared.builder.value_parser.ValueParser.TheVariants as vp
use Rattle.pgas_top.specs.Forms.{make_form_app, option_rule}

abbrev pub top : Shape
top = (built make_form_app).top

pub data Which : Type 0 where
  Seed : Which
  Vertices : Which
  Edges : Which

abbrev pub name_of : Which → Text
name_of Seed = codes "seed"
name_of Vertices = codes "vertices"
name_of Edges = codes "edges"

-- the rule of the option, as built
abbrev pub built_rule : Which → Rule
built_rule Seed = record (option_rule (codes "seed")) { parser = Some vp.String; range = Some (record { start_inclusive = 1; end_inclusive = 1 }) }
built_rule Vertices = record (option_rule (codes "vertices")) { parser = Some vp.String; range = Some (record { start_inclusive = 1; end_inclusive = 1 }) }
built_rule Edges = record (option_rule (codes "edges")) { parser = Some vp.String; range = Some (record { start_inclusive = 1; end_inclusive = 1 }) }

rules_are : top.rules ≡ built_rule Seed ∷ built_rule Vertices ∷ built_rule Edges ∷ []
rules_are = refl

-- between two options
abbrev pub at : Held → Walk
at h = record { held = h; waiting = idle; position = 1; is_trailing = false; stopped = None }

-- what is pending can be used, and these are the rows then
pub record Ready (h : Held) (rows : List Row) : Type 0 where
  pub passes : settle_passes top.rules false h ≡ true
  pub are : (settled top.rules h).rows ≡ rows

abbrev pub after_one : Which → Text → Held → Held
after_one k v h = record h { rows = used (built_rule k) (v ∷ []) (settled top.rules h).rows; pending = None }

pub walked_one : (k : Which) (v : Text) (h : Held) → walked top.rules [] (at h) (codes "--" ++ name_of k ++ codes "=" ++ v) ≡ at (after_one k v h)
unfolding walked
walked_one Seed v h = refl
walked_one Vertices v h = refl
walked_one Edges v h = refl

pub turn_one : (k : Which) (v : Text) (h : Held) (rows : List Row) → Ready h rows → has_row (name_of k) rows ≡ false → turn_passes top [] (at h) (codes "--" ++ name_of k ++ codes "=" ++ v) ≡ true
turn_one Seed v h rows ready fresh = rw (ready.passes, ready.are, fresh) refl
turn_one Vertices v h rows ready fresh = rw (ready.passes, ready.are, fresh) refl
turn_one Edges v h rows ready fresh = rw (ready.passes, ready.are, fresh) refl

-- behind an option's name
abbrev pub waits : Which → Held → Walk
waits k h = record (at (record (settled top.rules h) { pending = Some (name_of k, []) })) { waiting = option (name_of k) }

abbrev pub after_two : Which → Text → Held → Held
after_two k v h = record (settled top.rules h) { pending = Some (name_of k, v ∷ []) }

pub walked_name : (k : Which) (h : Held) → walked top.rules [] (at h) (codes "--" ++ name_of k) ≡ waits k h
unfolding walked
walked_name Seed h = refl
walked_name Vertices h = refl
walked_name Edges h = refl

pub turn_name : (k : Which) (h : Held) (rows : List Row) → Ready h rows → turn_passes top [] (at h) (codes "--" ++ name_of k) ≡ true
turn_name Seed h rows ready = rw (ready.passes) refl
turn_name Vertices h rows ready = rw (ready.passes) refl
turn_name Edges h rows ready = rw (ready.passes) refl

pub walked_value : (k : Which) (d : ℕ) (ds : Text) (h : Held) → (d == 45) ≡ false → walked top.rules [] (waits k h) (d ∷ ds) ≡ at (after_two k (d ∷ ds) h)
unfolding walked
walked_value Seed d ds h plain = rw (plain, plain) refl
walked_value Vertices d ds h plain = rw (plain, plain) refl
walked_value Edges d ds h plain = rw (plain, plain) refl

pub turn_value : (k : Which) (d : ℕ) (ds : Text) (h : Held) → (d == 45) ≡ false → turn_passes top [] (waits k h) (d ∷ ds) ≡ true
turn_value Seed d ds h plain = rw (plain, plain) refl
turn_value Vertices d ds h plain = rw (plain, plain) refl
turn_value Edges d ds h plain = rw (plain, plain) refl

-- the rows with one option more
abbrev pub with_option : Which → Text → List Row → List Row
with_option k v rows = used (built_rule k) (v ∷ []) rows

pub ready_one : (k : Which) (v : Text) (h : Held) (rows : List Row) → Ready h rows → Ready (after_one k v h) (with_option k v rows)
ready_one k v h rows ready = record { passes = refl; are = ap (used (built_rule k) (v ∷ [])) ready.are }

pub ready_two : (k : Which) (v : Text) (h : Held) (rows : List Row) → Ready h rows → has_row (name_of k) rows ≡ false → Ready (after_two k v h) (with_option k v rows)
ready_two Seed v h rows ready fresh = record { passes = rw (ready.are, fresh) refl; are = ap (used (built_rule Seed) (v ∷ [])) ready.are }
ready_two Vertices v h rows ready fresh = record { passes = rw (ready.are, fresh) refl; are = ap (used (built_rule Vertices) (v ∷ [])) ready.are }
ready_two Edges v h rows ready fresh = record { passes = rw (ready.are, fresh) refl; are = ap (used (built_rule Edges) (v ∷ [])) ready.are }

-- words that pass, and where they lead
pub record Runs (start : Walk) (words : List Text) (end : Held) : Type 0 where
  pub passes : walk_passes top [] start words ≡ true
  pub leads : fold (walked top.rules []) start words ≡ at end

pub runs_cons : (start next : Walk) (word : Text) (words : List Text) (end : Held) → turn_passes top [] start word ≡ true → walked top.rules [] start word ≡ next → Runs next words end → Runs start (word ∷ words) end
unfolding walk_passes
runs_cons start next word words end turn step rest = record {
  passes = rw (turn, step) rest.passes;
  leads = ap (λ (w : Walk). fold (walked top.rules []) w words) step ∙ rest.leads;
}

pub runs_none : (h : Held) → Runs (at h) [] h
unfolding walk_passes
runs_none h = record { passes = refl; leads = refl }
