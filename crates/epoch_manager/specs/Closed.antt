-- What the closing of a manager gives.
use Rattle.std.specs.Prelude.{◌≡◌, ℕ, ◌+◌, ◌-◌, ◌*◌, ◌<◌, List, length, map, slice_get, slice_index, Some, All, Contains}
use Rattle.pass_book.specs.Pages.{Book, IsBook}
use Rattle.pgas_base.specs.declared.shapes.Shape.{Shape}
use Rattle.epoch_laws.specs.Places.{Place}
use Rattle.epoch_laws.specs.States.{IsPlace}
use Rattle.pass_table.specs.Openings.{AreInOrder}
use Rattle.epoch_table.specs.declared.events.Happens.{Happens}
use Rattle.epoch_table.specs.declared.events.Past.{Past}
use Rattle.epoch_table.specs.Clients.{ClientTerms, Scene, Thing, deferrals_in}
use Rattle.epoch_table.specs.Events.{PastOpens, PastSteps, items_in, entries_in}
use Rattle.epoch_table.specs.Rule.{manager_terms}
use Rattle.epoch_manager.specs.declared.managers.ClientPass.{ClientPass}
use Rattle.epoch_manager.specs.declared.managers.Manager.{Manager}
use Rattle.epoch_manager.specs.Managers.{plan_of, shape_of, callers_of, caller_of, page, knows}

-- how many words the rows of all objects have
abbrev pub row_words : Shape → ℕ
row_words shape = shape.locales * shape.objects * shape.width

-- where a word of an object's row stands among those of all rows, by rising locale, then index, then place in the row
abbrev pub row_place : Shape → Place → ℕ → ℕ
row_place shape p at = (p.locale * shape.objects + (p.index - 1)) * shape.width + at

module _ {C O View' Call Reply State' : Type 0} (K : ClientTerms C View' Call Reply State') (opens : State' → Type 0) (step : State' → Call → Reply → State' → Type 0) (m : Manager C O View' Call Reply State') where
  -- There is the one book of the manager: its history is legal, and it has a page for each caller, with just its entries. Each pass has its caller's page, and had seen
  -- a beginning of the history, and no caller lacks a pass. The client's rule holds of a scene of this history whose own words are these, in which each caller
  -- knows what its pass does, and in which the rows of the objects that are owned or shown are these
  pub record ClosesWith (passes : List (ClientPass C View' Call Reply)) (client : C) (words rows : List ℕ) : Type 0 where
    pub same : client ≡ (plan_of m).client
    pub book : Book (Happens Call Reply) (Unit {0}) (Past State')
    pub legal : IsBook (PastOpens opens) (PastSteps step) book
    pub opened : book.start ≡ (manager_terms K).start (plan_of m)
    pub callers : length book.pages ≡ callers_of m
    pub pages : All (λ p. slice_get book.pages (caller_of p) ≡ Some (page p)) passes
    pub all : (caller : ℕ) → caller < callers_of m → Contains (map (λ p. caller_of p) passes) caller
    pub scene : Scene View' Call Reply
    pub holds : K.holds client (shape_of m) scene
    pub entries : scene.entries ≡ entries_in book.history
    pub deferrals : scene.deferrals ≡ deferrals_in (items_in book.history)
    pub views : All (λ p. scene.views (caller_of p) ≡ knows p) passes
    pub many_words : length words ≡ K.own client
    pub words_are : AreInOrder (λ k word. word ≡ scene.words k) words
    pub many_rows : length rows ≡ row_words (shape_of m)
    pub rows_are : (p : Place) (at : ℕ) (thing : Thing) → IsPlace (shape_of m) p → at < (shape_of m).width → scene.things p ≡ Some thing → slice_index rows (row_place (shape_of m) p at) ≡ thing.row at
