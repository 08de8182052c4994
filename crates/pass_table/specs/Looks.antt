-- What a look at word 0 with each pass does to the passes.
use Rattle.std.specs.Prelude.{◌≡◌, ℕ, ◌≤◌, List, [], ◌∷◌, ◌++◌, length, slice_get, Some}
use mathlib.Core.List.{IsPrefix}
use Rattle.pass_book.specs.Pages.{IsPage}
use Rattle.pass_table.specs.declared.passes.Pass.{Pass}
use Rattle.pass_table.specs.Terms.{Terms}
use Rattle.pass_table.specs.Passes.{caller_of, page, looked, IsSamePass}

module _ {Slot Call Reply State Plan Part Name : Type 0} (T : Terms Slot Call Reply State Plan Part Name) (plan : Plan) (most : ℕ) where
  -- It is the same caller's pass, with the same entries, which were what it had seen of its own. It has looked at word 0 once: this is the one word more that it has read, which says of all
  -- that it has seen what it shows, and that there are no more items than this
  pub record HasLooked (old new : Pass Slot Call Reply Plan Part Name) : Type 0 where
    pub same : IsSamePass old new
    pub own : IsPage (caller_of old) (page old)
    pub mine : (page new).mine ≡ (page old).mine
    pub seen : IsPrefix (page old).seen (page new).seen
    pub word : ℕ
    pub looked_at : looked new ≡ looked old ++ record { name = T.first_word; word = word } ∷ []
    pub shows : T.shows plan (page new).seen T.first_word word
    pub size : T.size word ≤ most

  -- the same passes in the same order, with each of which word 0 was looked at once
  pub record HaveLooked (old new : List (Pass Slot Call Reply Plan Part Name)) : Type 0 where
    pub many : length new ≡ length old
    pub each : (k : ℕ) (p q : Pass Slot Call Reply Plan Part Name) → slice_get old k ≡ Some p → slice_get new k ≡ Some q → HasLooked p q
