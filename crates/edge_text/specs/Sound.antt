-- The forms of a line of an edge list are a grammar.
use Rattle.std.proofs.Common.{◌≡◌, ℕ, zero, suc, ◌<◌, ◌≤◌, ◌^◌, true, false, List, [], length, Some, Ok, codes, refl, ap, arith, subst, inl}
use Rattle.std.proofs.lemmas.Bool.{false≢true}
use Rattle.std.proofs.lemmas.Option.{none-some, same_Some}
use Rattle.line_text.specs.declared.forms.Bounds.{Bounds}
use Rattle.line_text.specs.Lines.{IsGrammar, IsBounds, says_words, word_at}
use Rattle.line_text.specs.Words.{cut, words_of as words_in, AreLetters}
use Rattle.line_text.specs.Letters.{letters_from}
use Rattle.edge_text.specs.declared.forms.EdgeLine.{EdgeLine}
use Rattle.edge_text.specs.declared.forms.EdgeLine.TheVariants.{Head as HeadLine, Edge as AnEdge}
use Rattle.edge_text.specs.declared.forms.Spot.{Spot}
use Rattle.edge_text.specs.declared.forms.Spot.TheVariants.{First, Version, Direction, Head, From, To, Ends, Whole}
use Rattle.edge_text.specs.Forms.{words_of, after_word, id_bounds, weight_bounds, bounds_of, after_number, indented, edge_grammar, IsSpot}

word_keeps : (spot : Spot) (index : ℕ) → IsSpot spot → index < length (words_of spot) → IsSpot (after_word spot index)
word_keeps First index is within = tt
word_keeps Version index is within = tt
word_keeps Direction index is within = tt
word_keeps (Head both) index is within = tt
word_keeps (From weighted) index is within = tt
word_keeps (To weighted from) index is within = is
word_keeps (Ends weighted from to) index is within = is
word_keeps (Whole edge) index is within = is

id : (bounds : Bounds) (number : ℕ) → Some id_bounds ≡ Some bounds → number ≤ bounds.most → number < 2 ^ 24
id bounds number own most = omega (arith, most, ap (λ (b : Bounds). b.most) (same_Some id_bounds bounds own))

number_keeps : (spot : Spot) (bounds : Bounds) (number : ℕ) → IsSpot spot → bounds_of spot ≡ Some bounds → bounds.least ≤ number → number ≤ bounds.most → IsSpot (after_number spot number)
number_keeps First bounds number is own least most = id bounds number own most
number_keeps (From weighted) bounds number is own least most = id bounds number own most
number_keeps (To weighted from) bounds number is own least most = (is, id bounds number own most)
number_keeps (Ends true from to) bounds number is own least most = is
number_keeps (Ends false from to) bounds number is own least most = is
number_keeps Version bounds number is own least most = tt
number_keeps Direction bounds number is own least most = tt
number_keeps (Head both) bounds number is own least most = tt
number_keeps (Whole edge) bounds number is own least most = is

indents : (spot : Spot) → IsSpot spot → IsSpot (indented spot)
indents First is = tt
indents Version is = is
indents Direction is = is
indents (Head both) is = is
indents (From weighted) is = is
indents (To weighted from) is = is
indents (Ends weighted from to) is = is
indents (Whole edge) is = is

once : (spot : Spot) → indented (indented spot) ≡ indented spot
once First = refl
once Version = refl
once Direction = refl
once (Head both) = refl
once (From weighted) = refl
once (To weighted from) = refl
once (Ends weighted from to) = refl
once (Whole edge) = refl

-- ---- letters

letters : (spot : Spot) (index : ℕ) → IsSpot spot → index < length (words_of spot) → AreLetters (word_at edge_grammar spot index)
letters First zero is within = (omega arith, letters_from (codes "%pgas") refl)
letters First (suc index) is within = absurd (omega (arith, within))
letters Version zero is within = (omega arith, letters_from (codes "2") refl)
letters Version (suc index) is within = absurd (omega (arith, within))
letters Direction zero is within = (omega arith, letters_from (codes "directed") refl)
letters Direction (suc zero) is within = (omega arith, letters_from (codes "both") refl)
letters Direction (suc (suc index)) is within = absurd (omega (arith, within))
letters (Head both) index is within = absurd (omega (arith, within))
letters (From weighted) index is within = absurd (omega (arith, within))
letters (To weighted from) index is within = absurd (omega (arith, within))
letters (Ends weighted from to) index is within = absurd (omega (arith, within))
letters (Whole edge) index is within = absurd (omega (arith, within))

-- ---- bounds

id_sound : IsBounds id_bounds
id_sound = record { digit = omega arith; some = omega arith; fits = omega arith; one_sided = inl refl }

weight_sound : IsBounds weight_bounds
weight_sound = record { digit = omega arith; some = omega arith; fits = omega arith; one_sided = inl refl }

bounds_sound : (spot : Spot) (bounds : Bounds) → IsSpot spot → bounds_of spot ≡ Some bounds → IsBounds bounds
bounds_sound First own is same = subst IsBounds (same_Some id_bounds own same) id_sound
bounds_sound (From weighted) own is same = subst IsBounds (same_Some id_bounds own same) id_sound
bounds_sound (To weighted from) own is same = subst IsBounds (same_Some id_bounds own same) id_sound
bounds_sound (Ends true from to) own is same = subst IsBounds (same_Some weight_bounds own same) weight_sound
bounds_sound (Ends false from to) own is same = absurd (none-some own same)
bounds_sound Version own is same = absurd (none-some own same)
bounds_sound Direction own is same = absurd (none-some own same)
bounds_sound (Head both) own is same = absurd (none-some own same)
bounds_sound (Whole edge) own is same = absurd (none-some own same)

-- ---- each form goes on

goes_on : (spot : Spot) → IsSpot spot → (rest : List ℕ) × (line : EdgeLine) × (says_words edge_grammar spot (words_in (cut rest)) ≡ Ok (Some line))
goes_on First is = (codes "0 0", AnEdge (record { from = 0; to = 0; weight = 1 }), refl)
goes_on Version is = (codes "2 both", HeadLine true, refl)
goes_on Direction is = (codes "both", HeadLine true, refl)
goes_on (Head both) is = ([], HeadLine both, refl)
goes_on (From weighted) is = (codes "0 0", AnEdge (record { from = 0; to = 0; weight = 1 }), refl)
goes_on (To weighted from) is = (codes "0", AnEdge (record { from = from; to = 0; weight = 1 }), refl)
goes_on (Ends weighted from to) is = ([], AnEdge (record { from = from; to = to; weight = 1 }), refl)
goes_on (Whole edge) is = ([], AnEdge edge, refl)

-- from each form some line goes on
pub edge_grammar_sound : IsGrammar edge_grammar IsSpot
edge_grammar_sound = record {
  word = word_keeps;
  number = number_keeps;
  indents = indents;
  indents_once = once;
  letters = letters;
  bounds = bounds_sound;
  joins = λ spot bounds number is own least most joined. absurd (false≢true joined);
  goes_on = goes_on;
}
