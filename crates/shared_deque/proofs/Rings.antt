-- Items in a ring of cells, as they are pushed and popped at both ends.
use Rattle.std.proofs.Common.{◌≡◌, ◌≢◌, ℕ, zero, suc, ◌+◌, ◌-◌, ◌*◌, ◌/◌, ◌%◌, ◌<◌, List, [], ◌∷◌, ◌++◌, length, take, drop, get_or, ap, sym, ◌∙◌, arith, length-append, length-drop, div-add-mod', Some, slice_get, ⊎_elim, add-zero}
use Rattle.std.proofs.Math.Nat.{mul-add-mod_self_right, add-mod_right, mod-eq_of_lt, mod-lt}
use Rattle.std.proofs.Math.ListN.{get_or-append}
use Rattle.std.proofs.Math.Seq.{get_or-append_seam}
use Rattle.std.proofs.lemmas.List.{get_or-take, length-take}
use Rattle.std.proofs.lemmas.Grind.{get_or_after_one}
use Rattle.std.proofs.lemmas.Option.{slice_get-get_or}
use Rattle.std.proofs.lemmas.Bool.{cases_lt}
use Rattle.atomic_table.proofs.Lists.{one_turn}
use Rattle.pass_table.specs.Terms.{put}
use Rattle.pass_table.proofs.Lists.{put_here, put_else}
use Rattle.shared_deque.specs.Layout.{cell_before, cell_behind}
use Rattle.shared_deque.specs.Rule.{IsLaid}

-- a remainder may be taken before a sum
pub mod_first : (a b n : ℕ) → (a % n + b) % n ≡ (a + b) % n
mod_first a b n =
    let whole = div-add-mod' a n in
    let split : a / n * n + (a % n + b) ≡ a + b = omega (arith, whole) in
    sym (mul-add-mod_self_right (a / n) n (a % n + b)) ∙ ap (λ k. k % n) split

-- two places less than a turn apart lie in two cells
apart : (n a b : ℕ) → a < b → b < a + n → a % n ≢ b % n
apart n a b less near same = let one = one_turn a b n (omega arith) near same in omega arith

pub laid_push_back : (n head item : ℕ) (has : ℕ → ℕ) (items : List ℕ) → length items < n → IsLaid n head has items → IsLaid n head (put has ((head + length items) % n) item) (items ++ item ∷ [])
laid_push_back n head item has items room laid j below =
    let last : ℕ = (head + length items) % n in
    ⊎_elim
    (λ less.
    let other : (head + j) % n ≢ last = apart n (head + j) (head + length items) (omega arith) (omega arith) in
    get_or-append items (item ∷ []) 0 j less ∙ (laid j less ∙ sym (put_else has last item ((head + j) % n) other)))
    (λ least.
    let at : j ≡ length items = omega (arith, length-append items (item ∷ [])) in
    ap (λ k. get_or (items ++ item ∷ []) k 0) at ∙ (get_or-append_seam items item [] 0 ∙ sym (put_here has last item ((head + j) % n) (ap (λ k. (head + k) % n) at))))
    (cases_lt j (length items))

pub laid_push_front : (n head item : ℕ) (has : ℕ → ℕ) (items : List ℕ) → head < n → length items < n → IsLaid n head has items → IsLaid n (cell_before n head) (put has (cell_before n head) item) (item ∷ items)
laid_push_front n head item has items within room laid zero below =
    let cell : ℕ = cell_before n head in
    let less : cell < n = mod-lt (head + n - 1) (omega arith) in
    let same : (cell + 0) % n ≡ cell = ap (λ k. k % n) (add-zero cell) ∙ mod-eq_of_lt less in
    sym (put_here has cell item ((cell + 0) % n) same)
laid_push_front n head item has items within room laid (suc j) below =
    let cell : ℕ = cell_before n head in
    let less : j < length items = omega arith in
    let sum : head + n - 1 + suc j ≡ head + j + n = omega arith in
    let place : (cell + suc j) % n ≡ (head + j) % n = mod_first (head + n - 1) (suc j) n ∙ (ap (λ k. k % n) sum ∙ add-mod_right (head + j) n) in
    let other : (cell + suc j) % n ≢ cell = λ same. apart n (head + j) (head + n - 1) (omega arith) (omega arith) (sym place ∙ same) in
    laid j less ∙ (ap has (sym place) ∙ sym (put_else has cell item ((cell + suc j) % n) other))

pub laid_pop_back : (n head : ℕ) (has : ℕ → ℕ) (items : List ℕ) → IsLaid n head has items → IsLaid n head has (take (length items - 1) items)
laid_pop_back n head has items laid j below =
    let less : j < length items - 1 = omega (arith, length-take (length items - 1) items) in
    get_or-take (length items - 1) items j 0 less ∙ laid j (omega arith)

pub laid_pop_front : (n head : ℕ) (has : ℕ → ℕ) (items : List ℕ) → IsLaid n head has items → IsLaid n (cell_behind n head) has (drop 1 items)
laid_pop_front n head has items laid j below =
    let less : 1 + j < length items = omega (arith, length-drop 1 items) in
    let sum : head + (1 + j) ≡ head + 1 + j = omega arith in
    get_or_after_one items j 0 ∙ (laid (1 + j) less ∙ ap has (ap (λ k. k % n) sum ∙ sym (mod_first (head + 1) j n)))

-- the last item is what the last cell has
pub last_laid : (n head : ℕ) (has : ℕ → ℕ) (items : List ℕ) → 0 < length items → IsLaid n head has items → slice_get items (length items - 1) ≡ Some (has ((head + length items - 1) % n))
last_laid n head has items some laid =
    let sum : head + (length items - 1) ≡ head + length items - 1 = omega arith in
    slice_get-get_or items (length items - 1) 0 (omega arith) ∙ ap Some (laid (length items - 1) (omega arith) ∙ ap (λ k. has (k % n)) sum)

-- the first item is what the first cell has
pub first_laid : (n head : ℕ) (has : ℕ → ℕ) (items : List ℕ) → head < n → 0 < length items → IsLaid n head has items → slice_get items 0 ≡ Some (has head)
first_laid n head has items within some laid =
    let place : (head + 0) % n ≡ head = ap (λ k. k % n) (add-zero head) ∙ mod-eq_of_lt within in
    slice_get-get_or items 0 0 some ∙ ap Some (laid 0 some ∙ ap has place)
