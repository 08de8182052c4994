-- What a close gives.
use Rattle.std.proofs.Common.{◌≡◌, ◌+◌, ◌-◌, ◌*◌, ◌/◌, ◌%◌, ◌<◌, ℕ, List, [], ◌∷◌, ◌++◌, map, length, slice_index, slice_get, Option, Some, refl, ap, ap₂, sym, ◌∙◌, subst, arith, append_assoc}
use Rattle.std.specs.Prelude.{reverse, Contains}
use Rattle.std.proofs.lemmas.Bool.{lt-ltb}
use Rattle.std.proofs.lemmas.List.{map-append, reverse-append}
use Rattle.std.proofs.lemmas.Nat.{div-mul-add, mod-mul-add, mul-add-lt}
use Rattle.pgas_base.specs.declared.shapes.Shape.{Shape}
use Rattle.pool_core.specs.declared.headers.Header.{Header}
use Rattle.pool_core.specs.declared.headers.State.{State as HeaderState}
use Rattle.pool_core.specs.declared.headers.State.TheVariants.{Free, Own, Shown, Worn}
use Rattle.epoch_laws.specs.Places.{Place}
use Rattle.epoch_laws.specs.Runs.{state_after}
use Rattle.epoch_laws.specs.States.{IsPlace, opening, State}
use Rattle.epoch_laws.specs.Words.{WordName}
use Rattle.pass_table.specs.declared.passes.Pass.{Pass}
use Rattle.pass_table.specs.Closings.{ClosesWith as TableCloses}
use Rattle.pass_table.specs.Openings.{AreInOrder}
use Rattle.pass_table.specs.Passes.{pass_view, caller_of as table_caller, page as table_page}
use Rattle.pass_table.proofs.Lists.{all_in_order, all_at}
use Rattle.epoch_table.specs.declared.events.Happens.{Happens}
use Rattle.epoch_table.specs.declared.parts.Plan.{Plan}
use Rattle.epoch_table.specs.declared.parts.Part.{Part}
use Rattle.epoch_table.specs.Clients.{ClientTerms, Scene, Thing, thing_of}
use Rattle.epoch_table.specs.Events.{PastOpens, PastSteps}
use Rattle.epoch_table.specs.Layout.{InRow, OfClient, object_at, place}
use Rattle.epoch_table.specs.Rule.{row_word, scene_of, manager_terms}
use Rattle.epoch_table.proofs.Openings.{in_order_at}
use Rattle.epoch_manager.specs.declared.managers.ClientPass.{ClientPass}
use Rattle.epoch_manager.specs.declared.managers.Manager.{Manager}
use Rattle.epoch_manager.specs.Closed.{ClosesWith, row_words, row_place}
use Rattle.epoch_manager.specs.Managers.{plan_of, shape_of, caller_of, page, knows}
use Rattle.epoch_manager.proofs.Openings.{got}

-- one more was moved from the end of the one list to the front of what was taken out of the other
pub bared : {A B : Type 0} (f : A → B) (all : List B) (rest left : List A) (ws vs : List B) (a : A) (b : B) → all ≡ map f rest ++ reverse ws → rest ≡ left ++ a ∷ [] → vs ≡ ws ++ b ∷ [] → f a ≡ b → all ≡ map f left ++ reverse vs
bared f all rest left ws vs a b from popped pushed is =
    from
    ∙ (ap (λ l. map f l ++ reverse ws) popped
    ∙ (ap (λ l. l ++ reverse ws) (map-append f left (a ∷ []))
    ∙ (append_assoc (map f left) (f a ∷ []) (reverse ws) ∙ (ap (λ x. map f left ++ x ∷ reverse ws) is ∙ ap (λ l. map f left ++ l) (sym (ap reverse pushed ∙ reverse-append ws (b ∷ [])))))))

module _ (shape : Shape) where
  -- the number of a word of the rows tells its object and its place in the row
  pub place_back : (p : Place) (at : ℕ) → IsPlace shape p → at < shape.width → (object_at shape (row_place shape p at / shape.width) ≡ p) × (row_place shape p at % shape.width ≡ at) × (row_place shape p at < row_words shape)
  unfolding object_at
  place_back p at is small =
      let i = p.locale * shape.objects + (p.index - 1) in
      let index : p.index - 1 < shape.objects = (let a = is.some_object in let b = is.index in omega (arith, a, b)) in
      let low : i < shape.locales * shape.objects = omega (arith, mul-add-lt p.locale shape.objects (p.index - 1) shape.locales is.locale index) in
      let back : p.index - 1 + 1 ≡ p.index = (let a = is.some_object in omega (arith, a)) in
      let same : object_at shape i ≡ p = λ k. record { locale = div-mul-add p.locale shape.objects (p.index - 1) index k; index = (ap (λ x. x + 1) (mod-mul-add p.locale shape.objects (p.index - 1) index) ∙ back) k } in
      (ap (object_at shape) (div-mul-add i shape.width at small) ∙ same, mod-mul-add i shape.width at small, omega (arith, mul-add-lt i shape.width at (shape.locales * shape.objects) low small))

-- ---- the scene

some_so : {A : Type 0} (x y : A) → Some x ≡ Some y → x ≡ y
some_so x y e = cc

-- what is owned or shown has the row that stands there
row_of : (count : ℕ) (state : HeaderState) (tag : Option ℕ) (row : ℕ → ℕ) (thing : Thing) → thing_of (record { count = count; state = state }) tag row ≡ Some thing → thing.row ≡ row
row_of count Free tag row thing e = absurd (cc e)
row_of count Own tag row thing e = ap (λ (t : Thing). t.row) (sym (some_so _ thing e))
row_of count Shown tag row thing e = ap (λ (t : Thing). t.row) (sym (some_so _ thing e))
row_of count Worn tag row thing e = absurd (cc e)

in_row : (shape : Shape) (table : List ℕ) (p : Place) (at : ℕ) → IsPlace shape p → at < shape.width → row_word shape table p at ≡ slice_index table (place shape (InRow p at))
in_row shape table p at is small =
    let some = is.some_object in
    let index = is.index in
    rw (lt-ltb p.locale shape.locales is.locale, lt-ltb 0 p.index (omega (arith, some)), lt-ltb p.index (shape.objects + 1) (omega (arith, index)), lt-ltb at shape.width small) refl

twice : {A B : Type 0} (f : A → B) (g : B → ℕ) (xs : List A) → map g (map f xs) ≡ map (λ x. g (f x)) xs
twice f g [] = refl
twice f g (x ∷ xs) = ap (λ l. g (f x) ∷ l) (twice f g xs)

-- the words of the client, and those of the rows, as they stand in the table
abbrev pub AreOwnWords : List ℕ → Shape → List ℕ → Type 0
AreOwnWords table shape words = AreInOrder (λ k word. word ≡ slice_index table (place shape (OfClient k))) words

abbrev pub AreRowWords : List ℕ → Shape → List ℕ → Type 0
AreRowWords table shape rows = AreInOrder (λ k word. word ≡ slice_index table (place shape (InRow (object_at shape (k / shape.width)) (k % shape.width)))) rows

module _ {C O View' Call Reply State' : Type 0} (K : ClientTerms C View' Call Reply State') (opens : State' → Type 0) (step : State' → Call → Reply → State' → Type 0) (m : Manager C O View' Call Reply State')
    (bares : List (Pass (Unit {0}) (Happens Call Reply) (Unit {0}) (Plan C) (Part View') WordName)) (passes : List (ClientPass C View' Call Reply)) (table : List ℕ) (slots : List (Unit {0}))
    (same : bares ≡ map (λ p. p.pass) passes) (closes : TableCloses (manager_terms K) (PastOpens opens) (PastSteps step) m.words.table bares table slots) where
  abbrev last_state : State
  last_state = state_after (opening (plan_of m).shape (plan_of m).start (plan_of m).callers) closes.rule.steps

  abbrev last_scene : Scene View' Call Reply
  last_scene = scene_of (plan_of m).shape table last_state closes.book.history (λ c. (closes.parts c).client)

  row_read : (rows : List ℕ) → length rows ≡ row_words (shape_of m) → AreRowWords table (shape_of m) rows → (p : Place) (at : ℕ) (thing : Thing) → IsPlace (shape_of m) p → at < (shape_of m).width
      → last_scene.things p ≡ Some thing → slice_index rows (row_place (shape_of m) p at) ≡ thing.row at
  row_read rows many each p at thing is small there =
      let s : Shape = shape_of m in
      let back = place_back s p at is small in
      let header : Header = last_state.words.header p in
      let tag = last_state.tag p in
      in_order_at (λ k word. word ≡ slice_index table (place s (InRow (object_at s (k / s.width)) (k % s.width)))) rows each (row_place s p at) (omega (arith, back.2, many))
      ∙ (ap₂ (λ (q : Place) n. slice_index table (place s (InRow q n))) back.0 back.1
      ∙ (sym (in_row s table p at is small) ∙ sym (ap (λ (r : ℕ → ℕ). r at) (row_of header.count header.state tag (row_word s table p) thing there))))

  pub closes_manager : (shape : Shape) (own : ℕ) (client : C) (words rows : List ℕ) → (plan_of m).shape ≡ shape → (plan_of m).own ≡ own → client ≡ (plan_of m).client → length words ≡ own → AreOwnWords table shape words
      → length rows ≡ row_words shape → AreRowWords table shape rows → ClosesWith K opens step m passes client words rows
  closes_manager shape own client words rows planned owns is many each many_rows each_row = record {
    same = is;
    book = closes.book;
    legal = closes.legal;
    opened = closes.start;
    callers = closes.callers;
    pages = all_in_order (λ k p. slice_get closes.book.pages (caller_of p) ≡ Some (page p)) (λ (p : ClientPass C View' Call Reply). slice_get closes.book.pages (caller_of p) ≡ Some (page p)) passes (λ k p has. has)
        (λ k p at. all_at (λ q. slice_get closes.book.pages (table_caller q) ≡ Some (table_page q)) bares k p.pass closes.each (got (λ (q : ClientPass C View' Call Reply). q.pass) passes bares k p (sym same) at));
    all = λ caller low. subst (λ l. Contains l caller) (ap (map (λ q. table_caller q)) same ∙ twice (λ (p : ClientPass C View' Call Reply). p.pass) (λ q. table_caller q) passes) (closes.all caller low);
    scene = last_scene;
    holds = subst (λ c. K.holds c (shape_of m) last_scene) (sym is) closes.rule.client;
    entries = refl;
    deferrals = refl;
    views = all_in_order (λ k p. (closes.parts (caller_of p)).client ≡ knows p) (λ (p : ClientPass C View' Call Reply). (closes.parts (caller_of p)).client ≡ knows p) passes (λ k p has. has)
        (λ k p at. ap (λ (part : Part View'). part.client) (all_at (λ q. closes.parts (table_caller q) ≡ (pass_view q).part) bares k p.pass closes.told (got (λ (q : ClientPass C View' Call Reply). q.pass) passes bares k p (sym same) at)));
    many_words = many ∙ (sym owns ∙ (closes.rule.owns ∙ ap K.own (sym is)));
    words_are = subst (λ s. AreOwnWords table s words) (sym planned) each;
    many_rows = many_rows ∙ ap row_words (sym planned);
    rows_are = row_read rows (many_rows ∙ ap row_words (sym planned)) (subst (λ s. AreRowWords table s rows) (sym planned) each_row);
  }
