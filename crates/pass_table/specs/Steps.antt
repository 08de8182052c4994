-- What one step tells its caller, and what several together do.
use Rattle.std.specs.Prelude.{◌≡◌, ◌⊎◌, ℕ, ◌<◌, true, false, List, [], ◌∷◌, ◌++◌, if◌then◌else◌, All, slice_index}
use mathlib.Core.List.{IsPrefix}
use Rattle.atomic_table.specs.Table.{Me}
use Rattle.pass_book.specs.declared.entries.Entry.{Entry}
use Rattle.pass_book.specs.declared.entries.Look.{Look}
use Rattle.pass_book.specs.Histories.{IsLegal, IsOfCallers}
use Rattle.pass_book.specs.Pages.{Page, IsPage, IsPageOf, longer}
use Rattle.pass_table.specs.declared.views.View.{View}
use Rattle.pass_table.specs.Terms.{Terms, Effect, Moment}
use Rattle.pass_table.specs.Words.{Meets, AreTries}
use Rattle.pass_table.specs.Views.{page_of}

module _ {Slot Call Reply State Plan Part Name : Type 0} (T : Terms Slot Call Reply State Plan Part Name) (opens : State → Type 0) (step : State → Call → Reply → State → Type 0) (plan : Plan) where
  -- A caller's view is sound: it is one of the callers, its list is what it has seen of its own entries, and what it has seen is legal, with entries
  -- of the object's callers alone
  pub record IsSound (v : View Call Reply Plan Part Name) : Type 0 where
    pub below : v.number < T.callers plan
    pub own : IsPage v.number (page_of v)
    pub legal : IsLegal opens step (T.start plan) v.seen
    pub callers : IsOfCallers (T.callers plan) v.seen

  -- a view after a step with this effect
  abbrev pub view_after : View Call Reply Plan Part Name → Effect Slot Call Reply Part Name → View Call Reply Plan Part Name
  view_after v e = record v {
    mine = v.mine ++ e.entries;
    seen = if e.sees then e.history ++ e.entries else v.seen;
    looked = v.looked ++ e.looks;
    part = e.part;
    rests = T.rests e.part;
  }

  -- A step had an effect: the history at that moment begins with what was seen, and each word that was read says what it shows of it
  pub record Steps (tells : ℕ → Effect Slot Call Reply Part Name → Type 0) (m : Me Slot (View Call Reply Plan Part Name)) (found : ℕ) (n : Me Slot (View Call Reply Plan Part Name)) : Type 0 where
    pub effect : Effect Slot Call Reply Part Name
    pub after : n ≡ (view_after m.0 effect, effect.carried)
    pub begins : IsPrefix m.0.seen effect.history
    pub shows : All (λ (look : Look Name). T.shows plan effect.history look.name look.word) effect.looks
    pub quiet : effect.sees ≡ false → (effect.entries ≡ []) × (effect.looks ≡ [])
    pub before : IsSound m.0
    pub rested : m.0.rests ≡ T.rests m.0.part
    pub sound : IsSound n.0
    pub told : tells found effect

  -- it is the same caller, of the same opening
  pub record SameCaller (v w : View Call Reply Plan Part Name) : Type 0 where
    pub opened : w.plan ≡ v.plan
    pub number : w.number ≡ v.number

  -- Steps of a caller that read these words and made these entries. What was seen begins what stands before the entries, nothing that was seen stands
  -- behind them, and the call met a history for each word
  pub record Goes (v w : View Call Reply Plan Part Name) (looks : List (Look Name)) (entries : List (Entry Call Reply)) : Type 0 where
    pub same : SameCaller v w
    pub mine : w.mine ≡ v.mine ++ entries
    pub last : (before : List (Entry Call Reply)) × IsPrefix v.seen before × (w.seen ≡ before ++ entries)
    pub looked : w.looked ≡ v.looked ++ looks
    pub meets : Meets (T.shows plan) v.seen w.seen looks
    pub before : IsSound v
    pub sound : IsSound w

  -- The same of several steps that made entries: these stand in their order in what is seen, and others' entries may stand between them
  pub record GoesAmong (v w : View Call Reply Plan Part Name) (looks : List (Look Name)) (entries : List (Entry Call Reply)) : Type 0 where
    pub same : SameCaller v w
    pub mine : w.mine ≡ v.mine ++ entries
    pub looked : w.looked ≡ v.looked ++ looks
    pub meets : Meets (T.shows plan) v.seen w.seen looks
    pub before : IsSound v
    pub sound : IsSound w

  -- steps that saw and read nothing
  pub record Stays (v w : View Call Reply Plan Part Name) : Type 0 where
    pub same : SameCaller v w
    pub page : page_of w ≡ page_of v
    pub looked : w.looked ≡ v.looked
    pub sound : IsSound w

  -- the seat goes on, by a step that sees, to this part with these slots
  abbrev pub GoesTo : Me Slot (View Call Reply Plan Part Name) → Me Slot (View Call Reply Plan Part Name) → List (Look Name) → List (Entry Call Reply) → Part → List (ℕ × Slot) → Type 0
  GoesTo m n looks entries part carried = Goes m.0 n.0 looks entries × (n.0.part ≡ part) × (n.1 ≡ carried) × (n.0.rests ≡ T.rests part)

  -- the same by several steps that made entries
  abbrev pub GoesAmongTo : Me Slot (View Call Reply Plan Part Name) → Me Slot (View Call Reply Plan Part Name) → List (Look Name) → List (Entry Call Reply) → Part → List (ℕ × Slot) → Type 0
  GoesAmongTo m n looks entries part carried = GoesAmong m.0 n.0 looks entries × (n.0.part ≡ part) × (n.1 ≡ carried) × (n.0.rests ≡ T.rests part)

  -- the same by a step that sees and reads nothing
  abbrev pub StaysTo : Me Slot (View Call Reply Plan Part Name) → Me Slot (View Call Reply Plan Part Name) → Part → List (ℕ × Slot) → Type 0
  StaysTo m n part carried = Stays m.0 n.0 × (n.0.part ≡ part) × (n.1 ≡ carried) × (n.0.rests ≡ T.rests part)

  -- a caller that has not stepped yet, or made steps without an entry, that were some whole tries
  abbrev pub HasTried : (List (Look Name) → Type 0) → View Call Reply Plan Part Name → View Call Reply Plan Part Name → Type 0
  HasTried IsTry v w = (looks : List (Look Name)) × AreTries IsTry looks × (((w ≡ v) × (looks ≡ [])) ⊎ Goes v w looks [])

  -- There was a legal history, of the object's callers alone, which begins with what the page has seen and has just its entries of its caller, and of
  -- which word 0 said what it shows
  pub record MeetsFirst (caller : ℕ) (page : Page Call Reply) (found : ℕ) : Type 0 where
    pub met : List (Entry Call Reply)
    pub fits : IsPageOf caller met page
    pub legal : IsLegal opens step (T.start plan) met
    pub callers : IsOfCallers (T.callers plan) met
    pub shows : T.shows plan met T.first_word found

  -- a note was taken in: what is seen is the longer of what was seen and the note, and both begin it
  pub record LearnsNote (v w : View Call Reply Plan Part Name) (found : ℕ) : Type 0 where
    pub after : w ≡ record v { seen = longer v.seen v.pending_note; pending_note = []; looked = v.looked ++ record { name = T.first_word; word = found } ∷ [] }
    pub old_begins : IsPrefix v.seen (longer v.seen v.pending_note)
    pub note_begins : IsPrefix v.pending_note (longer v.seen v.pending_note)
    pub sound : IsSound w
    pub meets : MeetsFirst v.number (page_of w) found

module _ {Slot Call Reply State Plan Part Name : Type 0} (T : Terms Slot Call Reply State Plan Part Name) where
  -- word 0 was read, and all that stood in the history then is seen
  pub record SeesFirst (part : Part) (carried : List (ℕ × Slot)) (found : ℕ) (e : Effect Slot Call Reply Part Name) : Type 0 where
    pub sees : e.sees ≡ true
    pub entries : e.entries ≡ []
    pub looks : e.looks ≡ record { name = T.first_word; word = found } ∷ []
    pub same : e.part ≡ part
    pub held : e.carried ≡ carried

  -- word 0 says what it shows of the history at every moment
  abbrev pub FirstShows : Plan → Type 0
  FirstShows plan = (m : Moment Slot Call Reply Part) → T.holds plan m → T.shows plan m.history T.first_word (slice_index m.words 0)
