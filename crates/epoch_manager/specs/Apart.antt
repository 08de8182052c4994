-- How the objects of a row of cells stay apart.
use Rattle.std.proofs.Common.{◌≡◌, ◌≢◌, ◌⊎◌, ◌==◌, ℕ, ◌<◌, Bool, true, false, not, if◌then◌else◌, [], ◌∷◌, ◌++◌, refl, ap, sym, ◌∙◌, subst, inl, inr, ⊎_elim, eq-eqb, ne_eqb, ◌+◌, ◌*◌, Option, Some, None}
use Rattle.std.specs.List.{All, Contains}
use Rattle.std.proofs.lemmas.List.Elements.{All-push, All-weaker, All-filter, All-contains, filter_passes}
use Rattle.std.proofs.lemmas.Bool.{false≢true}
use mathlib.Core.Path.{fun_ext}
use Rattle.pgas_base.specs.Pointers.{Pointer, IsPointer, word_of}
use Rattle.epoch_laws.specs.Places.{Place, place_of, with_number, with_place}
use Rattle.epoch_laws.proofs.Updates.{number_here, number_there, at_number, place_here, place_there}
use Rattle.epoch_table.specs.Clients.{Thing, thing, Owned, Live, Retired}
use Rattle.epoch_manager.specs.declared.cells.CellsView.{CellsView}
use Rattle.epoch_manager.specs.Cells.{but, Location, Nowhere, InCell, ShownBy, CutBy, Names, AreApart}
use Rattle.epoch_manager.specs.PointerWords.{some_word, one_to_one}

-- ---- functions changed at one number

module _ {A : Type 0} (f : ℕ → A) (n : ℕ) where
  pub number_same : with_number f n (f n) ≡ f
  number_same = fun_ext (at_number (λ m x. x ≡ f m) f n (f n) refl (λ m ne. refl))

  pub number_so : (a : A) → f n ≡ a → with_number f n a ≡ f
  number_so a is = fun_ext (at_number (λ m x. x ≡ f m) f n a (sym is) (λ m ne. refl))

  pub number_twice : (a b : A) → with_number (with_number f n a) n b ≡ with_number f n b
  number_twice a b =
      fun_ext (at_number (λ m x. x ≡ with_number f n b m) (with_number f n a) n b (sym (number_here f n b))
      (λ m ne. number_there f n a m ne ∙ sym (number_there f n b m ne)))

-- ---- locations

in_not_cut : (w c : ℕ) → InCell w ≢ CutBy c
in_not_cut w c e = cc

in_not_shown : (w c : ℕ) → InCell w ≢ ShownBy c
in_not_shown w c e = cc

in_not_in : (w u : ℕ) → w ≢ u → InCell w ≢ InCell u
in_not_in w u ne e = ne (cc)

shown_not_in : (c w : ℕ) → ShownBy c ≢ InCell w
shown_not_in c w e = cc

shown_not_cut : (c d : ℕ) → ShownBy c ≢ CutBy d
shown_not_cut c d e = cc

shown_not_shown : (c d : ℕ) → c ≢ d → ShownBy c ≢ ShownBy d
shown_not_shown c d ne e = ne (cc)

cut_not_in : (c w : ℕ) → CutBy c ≢ InCell w
cut_not_in c w e = cc

cut_not_shown : (c d : ℕ) → CutBy c ≢ ShownBy d
cut_not_shown c d e = cc

cut_not_cut : (c d : ℕ) → c ≢ d → CutBy c ≢ CutBy d
cut_not_cut c d ne e = ne (cc)

-- ---- one object

-- there is an object, shown and not deferred
abbrev pub lives : Option Thing → Bool
lives None = false
lives (Some x) = elim (x.standing) [ Owned ↦ false | Live ↦ true | Retired ↦ false ]

pub unlike : (t : Option Thing) (m : ℕ) (row : ℕ → ℕ) → lives t ≡ false → t ≢ Some (record { count = m; standing = Live; row = row })
unlike t m row none is = false≢true (sym none ∙ ap lives is)

module _ (things : Place → Option Thing) (at : Place → Location) (location : Location) (word : ℕ) (names : Names things at location word) where
  -- a change at another place leaves it so
  pub names_still : (p : Place) (t : Option Thing) (l : Location) → place_of names.pointer ≢ p → Names (with_place things p t) (with_place at p l) location word
  names_still p t l ne = record {
    pointer = names.pointer;
    is_pointer = names.is_pointer;
    named = names.named;
    row = names.row;
    live = place_there things p t (place_of names.pointer) ne ∙ names.live;
    there = place_there at p l (place_of names.pointer) ne ∙ names.there;
  }

  names_moved : (p : Place) (l : Location) → place_of names.pointer ≢ p → Names things (with_place at p l) location word
  names_moved p l ne = record {
    pointer = names.pointer;
    is_pointer = names.is_pointer;
    named = names.named;
    row = names.row;
    live = names.live;
    there = place_there at p l (place_of names.pointer) ne ∙ names.there;
  }

  -- and its own move brings it there
  names_brought : (l : Location) → Names things (with_place at (place_of names.pointer) l) l word
  names_brought l = record {
    pointer = names.pointer;
    is_pointer = names.is_pointer;
    named = names.named;
    row = names.row;
    live = names.live;
    there = place_here at (place_of names.pointer) l;
  }

  -- it isn't where nothing lives, nor where an object of another location is
  pub not_where_none_lives : (p : Place) → lives (things p) ≡ false → place_of names.pointer ≢ p
  not_where_none_lives p none same = unlike (things p) names.pointer.count names.row none (subst (λ r. things r ≡ thing names.pointer Live names.row) same names.live)

  pub not_elsewhere : (p : Place) (l : Location) → at p ≡ l → location ≢ l → place_of names.pointer ≢ p
  not_elsewhere p l is ne same = ne (sym names.there ∙ (ap at same ∙ is))

-- two words that name one object are one
abbrev count_in : Option Thing → ℕ
count_in None = 0
count_in (Some x) = x.count

same_parts : (l k i j n m : ℕ) → l ≡ k → i ≡ j → n ≡ m → l * 72057594037927936 + i * 4294967296 + n ≡ k * 72057594037927936 + j * 4294967296 + m
same_parts l k i j n m a b c = cc

pub same_words : (things : Place → Option Thing) (at : Place → Location) (l k : Location) (v w : ℕ) (one : Names things at l v) (other : Names things at k w) → place_of one.pointer ≡ place_of other.pointer → v ≡ w
same_words things at l k v w one other same =
    let count : one.pointer.count ≡ other.pointer.count = ap count_in (sym one.live ∙ (ap things same ∙ other.live)) in
    one.named ∙ (same_parts one.pointer.locale other.pointer.locale one.pointer.index other.pointer.index one.pointer.count other.pointer.count
    (ap (λ p. p.locale) same) (ap (λ p. p.index) same) count ∙ sym other.named)

differs : (v w : ℕ) → (not (v == w)) ≡ true → v ≢ w
differs v w test same = false≢true (sym (ap not (eq-eqb v w same)) ∙ test)

-- ---- all objects

module _ (cells : ℕ) (words : ℕ → ℕ) (views : ℕ → CellsView) (things : Place → Option Thing) (apart : AreApart cells words views things) where
  -- what is live stays so, with any row
  pub still_apart : (things' : Place → Option Thing)
      → ((p : Place) (m : ℕ) (row : ℕ → ℕ) → things p ≡ Some (record { count = m; standing = Live; row = row }) → (row' : ℕ → ℕ) × (things' p ≡ Some (record { count = m; standing = Live; row = row' })))
      → AreApart cells words views things'
  still_apart things' kept =
      let go : (l : Location) (v : ℕ) → Names things apart.at l v → Names things' apart.at l v = λ l v names.
      let k = kept (place_of names.pointer) names.pointer.count names.row names.live in record {
        pointer = names.pointer;
        is_pointer = names.is_pointer;
        named = names.named;
        row = k.0;
        live = k.1;
        there = names.there;
      } in record {
        at = apart.at;
        linked = λ w low. ⊎_elim inl (λ names. inr (go (InCell w) (words w) names)) (apart.linked w low);
        shown = λ c. All-weaker (Names things apart.at (ShownBy c)) (Names things' apart.at (ShownBy c)) (go (ShownBy c)) (views c).shown (apart.shown c);
        cut = λ c. All-weaker (Names things apart.at (CutBy c)) (Names things' apart.at (CutBy c)) (go (CutBy c)) (views c).cut (apart.cut c);
      }

  -- what stands where nothing lives doesn't matter
  pub apart_there : (p : Place) (t : Option Thing) → lives (things p) ≡ false → AreApart cells words views (with_place things p t)
  apart_there p t none =
      still_apart (with_place things p t) (λ r m row live.
      let ne : r ≢ p = (λ same. unlike (things p) m row none (subst (λ o. things o ≡ Some (record { count = m; standing = Live; row = row })) same live)) in
      (row, place_there things p t r ne ∙ live))

  -- a pass shows an object
  pub shown_apart : (c : ℕ) (q : Pointer) (row : ℕ → ℕ) → IsPointer q → lives (things (place_of q)) ≡ false
      → AreApart cells words (with_number views c (record (views c) { shown = (views c).shown ++ word_of q ∷ [] })) (with_place things (place_of q) (thing q Live row))
  shown_apart c q row is none =
      let p : Place = place_of q in
      let things' : Place → Option Thing = with_place things p (thing q Live row) in
      let at' : Place → Location = with_place apart.at p (ShownBy c) in
      let go : (l : Location) (v : ℕ) → Names things apart.at l v → Names things' at' l v = λ l v names.
      names_still things apart.at l v names p (thing q Live row) (ShownBy c) (not_where_none_lives things apart.at l v names p none) in
      let new : Names things' at' (ShownBy c) (word_of q) = record {
        pointer = q;
        is_pointer = is;
        named = refl;
        row = row;
        live = place_here things p (thing q Live row);
        there = place_here apart.at p (ShownBy c);
      } in record {
        at = at';
        linked = λ w low. ⊎_elim inl (λ names. inr (go (InCell w) (words w) names)) (apart.linked w low);
        shown =
            at_number (λ d (view : CellsView). All (Names things' at' (ShownBy d)) view.shown) views c _
            (All-push (Names things' at' (ShownBy c)) (views c).shown (word_of q) (All-weaker (Names things apart.at (ShownBy c)) (Names things' at' (ShownBy c)) (go (ShownBy c)) (views c).shown (apart.shown c)) new)
            (λ d ne. All-weaker (Names things apart.at (ShownBy d)) (Names things' at' (ShownBy d)) (go (ShownBy d)) (views d).shown (apart.shown d));
        cut =
            at_number (λ d (view : CellsView). All (Names things' at' (CutBy d)) view.cut) views c _
            (All-weaker (Names things apart.at (CutBy c)) (Names things' at' (CutBy c)) (go (CutBy c)) (views c).cut (apart.cut c))
            (λ d ne. All-weaker (Names things apart.at (CutBy d)) (Names things' at' (CutBy d)) (go (CutBy d)) (views d).cut (apart.cut d));
      }

  -- a pass defers what it has cut
  pub deferred_apart : (c : ℕ) (q : Pointer) (row : ℕ → ℕ) → IsPointer q → Contains (views c).cut (word_of q)
      → AreApart cells words (with_number views c (record (views c) { cut = but (word_of q) (views c).cut })) (with_place things (place_of q) (thing q Retired row))
  deferred_apart c q row is has =
      let P : ℕ → Type 0 = Names things apart.at (CutBy c) in
      let own : P (word_of q) = All-contains P (views c).cut (word_of q) (apart.cut c) has in
      let same : own.pointer ≡ q = one_to_one own.pointer q own.is_pointer is (sym own.named) in
      let p : Place = place_of q in
      let here : apart.at p ≡ CutBy c = subst (λ (r : Pointer). apart.at (place_of r) ≡ CutBy c) same own.there in
      let things' : Place → Option Thing = with_place things p (thing q Retired row) in
      let at' : Place → Location = with_place apart.at p Nowhere in
      let go : (l : Location) → l ≢ CutBy c → (v : ℕ) → Names things apart.at l v → Names things' at' l v = λ l ne v names.
      names_still things apart.at l v names p (thing q Retired row) Nowhere (not_elsewhere things apart.at l v names p (CutBy c) here ne) in
      let other : (v : ℕ) → P v × ((not (v == word_of q)) ≡ true) → Names things' at' (CutBy c) v = λ v both.
      let names : P v = both.0 in
      names_still things apart.at (CutBy c) v names p (thing q Retired row) Nowhere (λ equal. differs v (word_of q) both.1 (same_words things apart.at (CutBy c) (CutBy c) v (word_of q) names own (equal ∙ sym (ap place_of same))))
      in record {
        at = at';
        linked = λ w low. ⊎_elim inl (λ names. inr (go (InCell w) (in_not_cut w c) (words w) names)) (apart.linked w low);
        shown =
            at_number (λ d (view : CellsView). All (Names things' at' (ShownBy d)) view.shown) views c _
            (All-weaker (Names things apart.at (ShownBy c)) (Names things' at' (ShownBy c)) (go (ShownBy c) (shown_not_cut c c)) (views c).shown (apart.shown c))
            (λ d ne. All-weaker (Names things apart.at (ShownBy d)) (Names things' at' (ShownBy d)) (go (ShownBy d) (shown_not_cut d c)) (views d).shown (apart.shown d));
        cut =
            at_number (λ d (view : CellsView). All (Names things' at' (CutBy d)) view.cut) views c _
            (λ k d low. other _ (All-filter (λ w. not (w == word_of q)) P (views c).cut (apart.cut c) k d low, filter_passes (λ w. not (w == word_of q)) (views c).cut k d low))
            (λ d ne. All-weaker (Names things apart.at (CutBy d)) (Names things' at' (CutBy d)) (go (CutBy d) (cut_not_cut d c ne)) (views d).cut (apart.cut d));
      }

  -- a pass empties a cell and has cut out what stood there
  pub emptied_apart : (c w : ℕ) → w < cells
      → AreApart cells (with_number words w 0) (with_number views c (record (views c) { cut = if words w == 0 then (views c).cut else (views c).cut ++ words w ∷ [] })) things
  emptied_apart c w low =
      let with : Bool → Type 0 = λ b. AreApart cells (with_number words w 0) (with_number views c (record (views c) { cut = if b then (views c).cut else (views c).cut ++ words w ∷ [] })) things in
      ⊎_elim
      (λ empty.
      subst with (sym (eq-eqb (words w) 0 empty))
      (subst (λ (ws : ℕ → ℕ). AreApart cells ws (with_number views c (views c)) things) (sym (number_so words w 0 empty))
      (subst (λ (vs : ℕ → CellsView). AreApart cells words vs things) (sym (number_same views c)) apart)))
      (λ names.
      let some : words w ≢ 0 = (λ e. some_word names.pointer names.is_pointer (sym names.named ∙ e)) in
      subst with (sym (ne_eqb (words w) 0 some)) (moved_out c w low names))
      (apart.linked w low)
    where
      moved_out : (c w : ℕ) → w < cells → Names things apart.at (InCell w) (words w)
          → AreApart cells (with_number words w 0) (with_number views c (record (views c) { cut = (views c).cut ++ words w ∷ [] })) things
      moved_out c w low names =
          let p : Place = place_of names.pointer in
          let at' : Place → Location = with_place apart.at p (CutBy c) in
          let go : (l : Location) → l ≢ InCell w → (v : ℕ) → Names things apart.at l v → Names things at' l v = λ l ne v other.
          names_moved things apart.at l v other p (CutBy c) (not_elsewhere things apart.at l v other p (InCell w) names.there ne) in
          record {
            at = at';
            linked =
                at_number (λ u (word : ℕ). u < cells → (word ≡ 0) ⊎ Names things at' (InCell u) word) words w 0 (λ low. inl refl)
                (λ u ne low. ⊎_elim inl (λ other. inr (go (InCell u) (in_not_in u w ne) (words u) other)) (apart.linked u low));
            shown =
                at_number (λ d (view : CellsView). All (Names things at' (ShownBy d)) view.shown) views c _
                (All-weaker (Names things apart.at (ShownBy c)) (Names things at' (ShownBy c)) (go (ShownBy c) (shown_not_in c w)) (views c).shown (apart.shown c))
                (λ d ne. All-weaker (Names things apart.at (ShownBy d)) (Names things at' (ShownBy d)) (go (ShownBy d) (shown_not_in d w)) (views d).shown (apart.shown d));
            cut =
                at_number (λ d (view : CellsView). All (Names things at' (CutBy d)) view.cut) views c _
                (All-push (Names things at' (CutBy c)) (views c).cut (words w)
                (All-weaker (Names things apart.at (CutBy c)) (Names things at' (CutBy c)) (go (CutBy c) (cut_not_in c w)) (views c).cut (apart.cut c))
                (names_brought things apart.at (InCell w) (words w) names (CutBy c)))
                (λ d ne. All-weaker (Names things apart.at (CutBy d)) (Names things at' (CutBy d)) (go (CutBy d) (cut_not_in d w)) (views d).cut (apart.cut d));
          }

  -- a pass puts what it has shown into an empty cell
  pub put_apart : (c w value : ℕ) → w < cells → words w ≡ 0 → (value ≡ 0) ⊎ Contains (views c).shown value
      → AreApart cells (with_number words w value) (with_number views c (record (views c) { shown = but value (views c).shown })) things
  put_apart c w value low free may =
      ⊎_elim
      (λ none. record {
        at = apart.at;
        linked = subst (λ (ws : ℕ → ℕ). (u : ℕ) → u < cells → (ws u ≡ 0) ⊎ Names things apart.at (InCell u) (ws u)) (sym (number_so words w value (free ∙ sym none))) apart.linked;
        shown =
            at_number (λ d (view : CellsView). All (Names things apart.at (ShownBy d)) view.shown) views c _
            (All-filter (λ v. not (v == value)) (Names things apart.at (ShownBy c)) (views c).shown (apart.shown c))
            (λ d ne. apart.shown d);
        cut = at_number (λ d (view : CellsView). All (Names things apart.at (CutBy d)) view.cut) views c _ (apart.cut c) (λ d ne. apart.cut d);
      })
      (λ has. moved_in c w value (All-contains (Names things apart.at (ShownBy c)) (views c).shown value (apart.shown c) has))
      may
    where
      moved_in : (c w value : ℕ) → Names things apart.at (ShownBy c) value
          → AreApart cells (with_number words w value) (with_number views c (record (views c) { shown = but value (views c).shown })) things
      moved_in c w value names =
          let p : Place = place_of names.pointer in
          let at' : Place → Location = with_place apart.at p (InCell w) in
          let go : (l : Location) → l ≢ ShownBy c → (v : ℕ) → Names things apart.at l v → Names things at' l v = λ l ne v other.
          names_moved things apart.at l v other p (InCell w) (not_elsewhere things apart.at l v other p (ShownBy c) names.there ne) in
          let still : (v : ℕ) → Names things apart.at (ShownBy c) v × ((not (v == value)) ≡ true) → Names things at' (ShownBy c) v = λ v both.
          let other : Names things apart.at (ShownBy c) v = both.0 in
          names_moved things apart.at (ShownBy c) v other p (InCell w) (λ equal. differs v value both.1 (same_words things apart.at (ShownBy c) (ShownBy c) v value other names equal)) in
          record {
            at = at';
            linked =
                at_number (λ u (word : ℕ). u < cells → (word ≡ 0) ⊎ Names things at' (InCell u) word) words w value
                (λ low. inr (names_brought things apart.at (ShownBy c) value names (InCell w)))
                (λ u ne low. ⊎_elim inl (λ other. inr (go (InCell u) (in_not_shown u c) (words u) other)) (apart.linked u low));
            shown =
                at_number (λ d (view : CellsView). All (Names things at' (ShownBy d)) view.shown) views c _
                (λ k d low.
                still _ (All-filter (λ v. not (v == value)) (Names things apart.at (ShownBy c)) (views c).shown (apart.shown c) k d low, filter_passes (λ v. not (v == value)) (views c).shown k d low))
                (λ d ne. All-weaker (Names things apart.at (ShownBy d)) (Names things at' (ShownBy d)) (go (ShownBy d) (shown_not_shown d c ne)) (views d).shown (apart.shown d));
            cut =
                at_number (λ d (view : CellsView). All (Names things at' (CutBy d)) view.cut) views c _
                (All-weaker (Names things apart.at (CutBy c)) (Names things at' (CutBy c)) (go (CutBy c) (cut_not_shown c c)) (views c).cut (apart.cut c))
                (λ d ne. All-weaker (Names things apart.at (CutBy d)) (Names things at' (CutBy d)) (go (CutBy d) (cut_not_shown d c)) (views d).cut (apart.cut d));
          }
