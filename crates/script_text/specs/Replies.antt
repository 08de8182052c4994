-- Replies as plain data, and their text.
use Rattle.std.specs.Prelude.{ℕ, ◌+◌, List, [], ◌∷◌, ◌++◌, map, codes, decimal}
use Rattle.std.specs.List.{flat_map}
use Rattle.script_text.specs.declared.replies.Reply.{Reply}
use Rattle.script_text.specs.declared.replies.Reply.TheVariants.{Value, Wrote, Was, Range, Len, TooLong, NoRoom, Added, Full, Took, Empty, Pushed}
use Rattle.script_text.specs.declared.replies.Left.{Left}
use Rattle.script_text.specs.declared.replies.Left.TheVariants.{Items}
use Rattle.script_text.specs.declared.replies.Replies.{Replies}

abbrev pub left_items : Left → List ℕ
left_items (Items items) = items.items

-- the replies of each caller
abbrev pub reply_lists : Replies → List (List Reply)
reply_lists replies = map (λ list. list.items) replies.callers.items

abbrev pub reply_text : Reply → List ℕ
reply_text (Value value) = codes "value " ++ decimal value
reply_text Wrote = codes "wrote"
reply_text (Was value) = codes "was " ++ decimal value
reply_text (Range len) = codes "range " ++ decimal len
reply_text (Len len) = codes "len " ++ decimal len
reply_text TooLong = codes "too long"
reply_text (NoRoom locale) = codes "no room " ++ decimal locale
reply_text Added = codes "added"
reply_text Full = codes "full"
reply_text (Took item) = codes "took " ++ decimal item
reply_text Empty = codes "empty"
reply_text Pushed = codes "pushed"

-- a line for the caller, and one for each reply
abbrev pub caller_text : ℕ → List Reply → List ℕ
caller_text caller replies = codes "caller " ++ (decimal caller ++ (10 ∷ flat_map (λ reply. reply_text reply ++ 10 ∷ []) replies))

-- the lines of the callers from this one on
abbrev pub callers_text : ℕ → List (List Reply) → List ℕ
callers_text caller [] = []
callers_text caller (replies ∷ rest) = caller_text caller replies ++ callers_text (caller + 1) rest

-- one line, with a space before each item
abbrev pub left_text : List ℕ → List ℕ
left_text items = codes "left" ++ (flat_map (λ item. 32 ∷ decimal item) items ++ 10 ∷ [])

abbrev pub replies_text : Replies → List ℕ
replies_text replies = callers_text 0 (reply_lists replies) ++ left_text (left_items replies.left)
