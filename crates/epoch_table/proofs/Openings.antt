-- The opening of a manager's table meets its rule.
use Rattle.std.proofs.Common.{◌≡◌, ◌<◌, ◌≤◌, ℕ, true, List, [], length, slice_index, None, refl, ap, sym, ◌∙◌, subst, ⊎_elim, arith}
use Rattle.std.proofs.lemmas.Bool.{cases_lt, false≢true}
use Rattle.std.proofs.lemmas.List.{get_or_past}
use Rattle.std.proofs.lemmas.Option.{slice_get-get_or, slice_get_within}
use mathlib.Core.Option.{Option}
use Rattle.pgas_base.specs.declared.shapes.Shape.{Shape}
use Rattle.pgas_base.specs.declared.starts.Start.{Start}
use Rattle.pgas_base.specs.Shapes.{IsShape}
use Rattle.pgas_base.specs.Starts.{IsStart}
use Rattle.epoch_laws.specs.Places.{Place}
use Rattle.epoch_laws.specs.Words.{WordName, word_at}
use Rattle.epoch_laws.specs.Seats.{is_reclaiming, Idle}
use Rattle.epoch_laws.specs.States.{opening, opening_seat, opening_words}
use Rattle.epoch_laws.specs.ReclaimSteps.{last_epoch}
use Rattle.pass_table.specs.Openings.{AreInOrder}
use Rattle.epoch_table.specs.Events.{HasNoReturn}
use Rattle.epoch_table.specs.declared.parts.Plan.{Plan}
use Rattle.epoch_table.specs.Layout.{Named, OfClient, place, named_place, table_words, site_at, opening_number}
use Rattle.epoch_table.specs.Clients.{ClientTerms, Opens, opening_scene, thing_of, deferrals_in}
use Rattle.epoch_table.specs.Rule.{AreShown, AreSmall, AreLow, row_word, scene_of, ManagerRule, manager_terms}
use Rattle.epoch_table.proofs.Places.{site_found, named_within}

nothing_returned : HasNoReturn []
unfolding HasNoReturn
nothing_returned = tt

module _ {A : Type 0} (P : ℕ → A → Type 0) where
  pub in_order_none : (xs : List A) → xs ≡ [] → AreInOrder P xs
  in_order_none xs none k x at = let low = slice_get_within xs k x at in let e = ap length none in absurd (omega (arith, low, e))

pub in_order_at : (P : ℕ → ℕ → Type 0) (xs : List ℕ) → AreInOrder P xs → (k : ℕ) → k < length xs → P k (slice_index xs k)
in_order_at P xs all k low = all k (slice_index xs k) (slice_get-get_or xs k 0 low)

module _ (shape : Shape) (start : Start) (seats : ℕ) where
  opening_shows : (name : WordName) → opening_number shape start (Named name) ≡ word_at (opening shape start seats).words name
  unfolding opening opening_number
  opening_shows name = refl

  opening_seats_are : (c : ℕ) → opening_seat ≡ (opening shape start seats).seat c
  unfolding opening
  opening_seats_are c = refl

  opening_heads : (l : ℕ) → ((opening shape start seats).words.free_head l).count ≡ start.stack
  unfolding opening opening_words
  opening_heads l = refl

  opening_small : AreSmall (opening shape start seats)
  unfolding opening opening_words
  opening_small = record { heads = λ l. omega arith; looks = λ c. omega arith }

  opening_low : IsStart start → AreLow (opening shape start seats)
  unfolding opening opening_words
  opening_low is =
      let low : start.epoch ≤ last_epoch = is.epoch in
      record { epoch = low; epochs = λ l. low; announced = λ c. omega arith; scans = λ c. tt }

  opening_things : (row : Place → ℕ → ℕ) (p : Place) → thing_of ((opening shape start seats).words.header p) ((opening shape start seats).tag p) (row p) ≡ None
  unfolding opening opening_words
  opening_things row p = refl

  opening_owned : (c : ℕ) → ((opening shape start seats).seat c).owned ≡ []
  unfolding opening
  opening_owned c = refl

opening_rests : is_reclaiming Idle ≡ true → ⊥
unfolding is_reclaiming
opening_rests e = false≢true e

no_deferrals : deferrals_in [] ≡ []
unfolding deferrals_in
no_deferrals = refl

client_opens : (shape : Shape) (start : Start) (word : ℕ) → opening_number shape start (OfClient word) ≡ 0
unfolding opening_number
client_opens shape start word = refl

module _ {Self View Call Reply State' : Type 0} (K : ClientTerms Self View Call Reply State') (plan : Plan Self) (words : List ℕ)
    (wide : length words ≡ table_words plan.shape plan.own) (each : (at : ℕ) → at < table_words plan.shape plan.own → slice_index words at ≡ opening_number plan.shape plan.start (site_at plan.shape at)) where
  shown : AreShown plan.shape words (opening plan.shape plan.start plan.callers).words
  shown name is =
      let low = named_within plan.shape name is in
      each (named_place plan.shape name) (omega (arith, low))
      ∙ (ap (opening_number plan.shape plan.start) (site_found plan.shape (Named name) is) ∙ opening_shows plan.shape plan.start plan.callers name)

  client_word : (w : ℕ) → slice_index words (place plan.shape (OfClient w)) ≡ 0
  client_word w =
      ⊎_elim
      (λ less.
      each (place plan.shape (OfClient w)) (omega (arith, less))
      ∙ (ap (opening_number plan.shape plan.start) (site_found plan.shape (OfClient w) tt) ∙ client_opens plan.shape plan.start w))
      (λ past. get_or_past words (place plan.shape (OfClient w)) 0 (omega (arith, wide, past)))
      (cases_lt w plan.own)

  scene_is : scene_of plan.shape words (opening plan.shape plan.start plan.callers) [] (λ c. K.first) ≡ opening_scene K
  scene_is = λ i. record {
    words = λ w. client_word w i;
    entries = [];
    views = λ c. K.first;
    deferrals = no_deferrals i;
    things = λ p. opening_things plan.shape plan.start plan.callers (row_word plan.shape words) p i;
    owned = λ c. opening_owned plan.shape plan.start plan.callers c i;
  }

  pub opens_with : Opens K → IsShape plan.shape → IsStart plan.start → plan.start.count < 4294967296 → plan.own ≡ K.own plan.client → (homes : List (Option (Unit {0})))
      → ManagerRule K plan record { words = words; homes = homes; history = []; parts = λ c. (manager_terms K).first }
  opens_with opens is_shape is_start count owns homes = record {
    is_shape = is_shape;
    is_start = is_start;
    count = count;
    steps = [];
    run = tt;
    listed = refl;
    own = tt;
    owns = owns;
    wide = wide;
    shown = shown;
    seats = λ c. opening_seats_are plan.shape plan.start plan.callers c;
    facts = λ c. record { count = λ p n has e. absurd (cc e); next = λ p word hand e. absurd (cc e) };
    heads = λ l. let head = opening_heads plan.shape plan.start plan.callers l in omega (arith, head);
    small = opening_small plan.shape plan.start plan.callers;
    low = opening_low plan.shape plan.start plan.callers is_start;
    returns = λ none. nothing_returned;
    reclaims = λ c r. absurd (opening_rests r);
    client = subst (K.holds plan.client plan.shape) (sym scene_is) (opens plan.client plan.shape);
  }
