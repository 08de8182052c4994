-- An opening shows the state in which the machine opens.
use Rattle.std.proofs.Common.{◌≡◌, ◌==◌, ◌<◌, ◌≤◌, ◌+◌, ◌-◌, ◌*◌, ◌/◌, ◌%◌, ◌^◌, ℕ, false, if◌then◌else◌, List, [], ◌∷◌, ◌++◌, None, length, slice_index_or, replicate, refl, ap, sym, ◌∙◌, subst, inl, inr, arith}
use Rattle.std.specs.Prelude.{count_by}
use Rattle.std.proofs.lemmas.List.{length_push, length-replicate, get_or-replicate, get_or_append_left, get_or_push}
use Rattle.std.proofs.lemmas.Nat.{div-mul-add, mod-mul-add}
use Rattle.std.proofs.lemmas.Bool.Decides.{eqb_tells}
use Rattle.pgas_base.specs.declared.shapes.Shape.{Shape}
use Rattle.pgas_base.specs.declared.starts.Start.{Start}
use Rattle.pgas_base.specs.Pointers.{word_of}
use Rattle.pgas_base.specs.Shapes.{IsShape}
use Rattle.pgas_base.specs.Starts.{IsStart}
use Rattle.pool_core.specs.declared.headers.State.TheVariants.{Free}
use Rattle.epoch_laws.specs.Places.{Place, is_among}
use Rattle.epoch_laws.specs.Seats.{Idle}
use Rattle.epoch_laws.specs.States.{IsPlace, opening, opening_seat, opening_words}
use Rattle.epoch_core.specs.declared.machine.Machine.{Machine}
use Rattle.epoch_core.specs.declared.marks.Keeper.{Keeper}
use Rattle.epoch_core.specs.declared.marks.Keeper.TheVariants.{Nobody}
use Rattle.epoch_core.specs.declared.marks.Role.{Role}
use Rattle.epoch_core.specs.declared.marks.Role.TheVariants.{Owner, Hand, Walker}
use Rattle.epoch_core.specs.declared.seats.Seat.{Seat as RunningSeat}
use Rattle.epoch_core.specs.Marks.{is_kept, list_of}
use Rattle.epoch_core.specs.Opened.{AreFirstLinks, AreNewSeats, IsNewSeat, first_link}
use Rattle.epoch_core.specs.Phases.{phase_of}
use Rattle.epoch_core.specs.Runs.{IsAfter}
use Rattle.epoch_core.specs.Seated.{SeatShown, TailInside}
use Rattle.epoch_core.specs.Shown.{IsShowing}
use Rattle.epoch_core.specs.Tables.{IsList, IsToken, ListName, Shows, list_number, place_number, token_number}
use Rattle.epoch_core.proofs.Empties.{no_count}
use Rattle.epoch_core.proofs.Tables.{place_low, token_low}

-- what holds of each value of a list and of one more
pushed : {A : Type 0} (P : ℕ → A → Type 0) (n : ℕ) (xs : List A) (x : A) → length xs ≡ n → ((k : ℕ) (d : A) → k < n → P k (slice_index_or xs k d)) → P n x
    → (k : ℕ) (d : A) → k < n + 1 → P k (slice_index_or (xs ++ x ∷ []) k d)
pushed {A} P n xs x len before one k d low = elim (eqb_tells k n) [
  | inl (_, same) ↦
      let Q : ℕ → Type 0 = λ j. P j (slice_index_or (xs ++ x ∷ []) j d) in
      subst Q (sym same) (subst (P n) (sym (get_or_push xs x d n len)) one)
  | inr (_, apart) ↦
      let below : k < n = omega (arith, low, apart) in
      let inside : k < length xs = subst (λ v. k < v) (sym len) below in
      subst (P k) (sym (get_or_append_left xs (x ∷ []) d k inside)) (before k d below)
]

pub links-push : (shape : Shape) (count n : ℕ) (xs : List ℕ) (x : ℕ) → AreFirstLinks shape count n xs → x ≡ first_link shape count n → AreFirstLinks shape count (n + 1) (xs ++ x ∷ [])
links-push shape count n xs x links is = (length_push xs x ∙ ap (λ v. v + 1) links.0, pushed (λ k v. v ≡ first_link shape count k) n xs x links.0 links.1 is)

pub seats-push : (n : ℕ) (xs : List RunningSeat) (x : RunningSeat) → AreNewSeats n xs → IsNewSeat x → AreNewSeats (n + 1) (xs ++ x ∷ [])
seats-push n xs x seats is = (length_push xs x ∙ ap (λ v. v + 1) seats.0, pushed (λ k r. IsNewSeat r) n xs x seats.0 seats.1 is)

shows_same : {K A : Type 0} (count : ℕ) (Inside : K → Type 0) (number : K → ℕ) (xs : List A) (x : A) → xs ≡ replicate count x → ((k : K) → Inside k → number k < count)
    → Shows count Inside number xs (λ k. x)
shows_same {K} {A} count Inside number xs x is low = record {
  len = ap length is ∙ length-replicate count x;
  at = λ k d inside. ap (λ (l : List A). slice_index_or l (number k) d) is ∙ get_or-replicate count (number k) x d (low k inside);
}

first_link-place : (shape : Shape) (count : ℕ) (p : Place) → IsPlace shape p
    → first_link shape count (place_number shape p) ≡ (if p.index == shape.objects then 0 else word_of (record { locale = p.locale; index = p.index + 1; count = count }))
first_link-place shape count p inside =
    let some : 1 ≤ p.index = inside.some_object in
    let most : p.index ≤ shape.objects = inside.index in
    let low : p.index - 1 < shape.objects = omega arith in
    let row : place_number shape p / shape.objects ≡ p.locale = div-mul-add p.locale shape.objects (p.index - 1) low in
    let column : place_number shape p % shape.objects ≡ p.index - 1 = mod-mul-add p.locale shape.objects (p.index - 1) low in
    let here : place_number shape p % shape.objects + 1 ≡ p.index = omega (arith, column) in
    let behind : place_number shape p % shape.objects + 2 ≡ p.index + 1 = omega (arith, column) in
    λ j. if here j == shape.objects then 0 else word_of (record { locale = row j; index = behind j; count = count })

new_shown : (shape : Shape) → IsShape shape → (r : RunningSeat) → IsNewSeat r → SeatShown shape r opening_seat
new_shown shape is r one =
    let some_locale : 1 ≤ shape.locales = is.0.0 in
    let some_token : 1 ≤ shape.tokens = is.1.0 in
    let token_is : r.token ≡ record { locale = 0; number = 0 } = ap (λ q. q.token) one.same in
    let announced_is : r.announced ≡ 0 = ap (λ q. q.announced) one.same in
    let phase_is : phase_of r.phase ≡ Idle = ap (λ q. q.phase) one.same in
    let scan_locale_is : r.reclaim.scan.locale ≡ 0 = ap (λ q. q.reclaim.scan.locale) one.same in
    let scan_number_is : r.reclaim.scan.number ≡ 0 = ap (λ q. q.reclaim.scan.number) one.same in
    let stack_locale_is : r.stack.locale ≡ 0 = ap (λ q. q.stack.locale) one.same in
    let stack_index_is : r.stack.head.index ≡ 0 = ap (λ q. q.stack.head.index) one.same in
    record {
      same = sym one.same;
      in_range = record {
        token = subst (IsToken shape) (sym token_is) (record { locale = some_locale; number = some_token });
        announced = subst (λ n. n ≤ 2 ^ 62) (sym announced_is) (omega arith);
        looked = λ e. absurd (cc (phase_is, e));
        swapped = λ e. absurd (cc (phase_is, e));
        scans = λ e. absurd (cc (phase_is, e));
        advances = λ e. absurd (cc (phase_is, e));
        rests = λ e. refl;
        scan_locale = subst (λ n. n ≤ shape.locales) (sym scan_locale_is) (omega arith);
        scan_number = subst (λ n. n < shape.tokens) (sym scan_number_is) some_token;
        stack_locale = subst (λ n. n < shape.locales) (sym stack_locale_is) some_locale;
        stack_index = subst (λ n. n ≤ shape.objects) (sym stack_index_is) (omega arith);
        tail = subst (TailInside shape) (sym one.tail) tt;
      };
    }

no_list : (role : Role) → list_of role opening_seat ≡ []
no_list Owner = refl
no_list Hand = refl
no_list Walker = refl

none_among : (role : Role) (p : Place) → is_among p (list_of role opening_seat) ≡ false
unfolding is_among
none_among role p = ap (λ l. is_among p l) (no_list role)

-- what the tables of an opening are
pub record IsOpened (m : Machine) (start : Start) (most : ℕ) : Type 0 where
  pub epoch : m.epoch ≡ start.epoch
  pub election : m.election ≡ 0
  pub epochs : m.epochs.items ≡ replicate m.shape.locales start.epoch
  pub elections : m.elections.items ≡ replicate m.shape.locales 0
  pub lists : m.lists.items ≡ replicate (m.shape.locales * 4) 0
  pub free_heads : m.free_heads.items ≡ replicate m.shape.locales (record { count = start.stack; index = 1 })
  pub home_heads : m.home_heads.items ≡ replicate m.shape.locales 0
  pub tokens : m.tokens.items ≡ replicate (m.shape.locales * m.shape.tokens) 0
  pub headers : m.headers.items ≡ replicate (m.shape.locales * m.shape.objects) (record { count = start.count; state = Free })
  pub next : AreFirstLinks m.shape start.count (m.shape.locales * m.shape.objects) m.next.items
  pub tags : m.tags.items ≡ replicate (m.shape.locales * m.shape.objects) None
  pub keepers : m.keepers.items ≡ replicate (m.shape.locales * m.shape.objects) Nobody
  pub seats : AreNewSeats most m.seats.items

list_low : (shape : Shape) (n : ListName) → IsList shape n → list_number n < shape.locales * 4
list_low shape n inside = omega (arith, inside.0, inside.1)

module _ (m : Machine) (start : Start) (seats : ℕ) (is : IsShape m.shape) (starts : IsStart start) (o : IsOpened m start seats) where
  uncounted : (role : Role) (c : ℕ) → count_by (is_kept role c) m.keepers.items ≡ 0
  uncounted role c =
      let most = m.shape.locales * m.shape.objects in
      ap (λ l. count_by (is_kept role c) l) o.keepers
      ∙ no_count (is_kept role c) (replicate most Nobody) Nobody (λ i low. ap (is_kept role c) (get_or-replicate most i Nobody Nobody (subst (λ v. i < v) (length-replicate most Nobody) low)))

  pub opens : IsShowing m (opening m.shape start seats)
  unfolding opening opening_words
  opens =
      let shape = m.shape in
      let places = shape.locales * shape.objects in record {
        shaped = is;
        shape = refl;
        words = record {
          epoch = o.epoch;
          election = o.election;
          epochs = shows_same shape.locales (λ l. l < shape.locales) (λ l. l) m.epochs.items start.epoch o.epochs (λ l low. low);
          elections = shows_same shape.locales (λ l. l < shape.locales) (λ l. l) m.elections.items 0 o.elections (λ l low. low);
          lists = shows_same (shape.locales * 4) (IsList shape) list_number m.lists.items 0 o.lists (list_low shape);
          free_heads = shows_same shape.locales (λ l. l < shape.locales) (λ l. l) m.free_heads.items (record { count = start.stack; index = 1 }) o.free_heads (λ l low. low);
          home_heads = shows_same shape.locales (λ l. l < shape.locales) (λ l. l) m.home_heads.items 0 o.home_heads (λ l low. low);
          tokens = shows_same (shape.locales * shape.tokens) (IsToken shape) (token_number shape) m.tokens.items 0 o.tokens (token_low shape);
          headers = shows_same places (IsPlace shape) (place_number shape) m.headers.items (record { count = start.count; state = Free }) o.headers (place_low shape);
          next = record {
            len = o.next.0;
            at = λ p d inside. o.next.1 (place_number shape p) d (place_low shape p inside) ∙ first_link-place shape start.count p inside;
          };
        };
        low = record {
          epoch = starts.epoch;
          epoch_of = λ l low. starts.epoch;
          free_index = λ l low. is.2.0;
          free_count = λ l low. starts.stack;
        };
        tags = shows_same places (IsPlace shape) (place_number shape) m.tags.items None o.tags (place_low shape);
        seats = record {
          count = o.seats.0;
          each = λ c d low. new_shown shape is (slice_index_or m.seats.items c d) (o.seats.1 c d low);
          counted = λ c d low. ((o.seats.1 c d low).hand ∙ sym (uncounted Hand c), (o.seats.1 c d low).walked ∙ sym (uncounted Walker c));
        };
        marks = record {
          len = ap length o.keepers ∙ length-replicate places Nobody;
          kept = λ role c p d low inside. none_among role p
              ∙ sym (ap (is_kept role c) (ap (λ (l : List Keeper). slice_index_or l (place_number shape p) d) o.keepers ∙ get_or-replicate places (place_number shape p) Nobody d (place_low shape p inside)));
          inside = λ role c p low on. absurd (cc (on, none_among role p));
        };
      }

  pub opened : start.count < 2 ^ 32 → IsAfter m m.shape start seats []
  opened fits = record { shaped = is; count = fits; run = tt; shows = opens }

pub sized : {A : Type 0} {xs : List A} {n l : ℕ} (x : A) → xs ≡ replicate n x → n ≡ l → xs ≡ replicate l x
sized x is same = is ∙ ap (λ n. replicate n x) same
