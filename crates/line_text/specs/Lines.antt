-- What a line says.
use Rattle.std.specs.Prelude.{◌≡◌, ◌⊎◌, ℕ, ◌+◌, ◌<◌, ◌≤◌, ◌*◌, ◌^◌, Bool, true, false, ◌==◌, ◌&&◌, nat_lt, if◌then◌else◌, List, [], ◌∷◌, length, slice_index_or, Option, Some, None, is_some, Result, Ok, Err}
use Rattle.std.specs.Char.{digit_value}
use Rattle.std.specs.Cmp.Lexicographic.{pointwise}
use Rattle.line_text.specs.declared.forms.Bounds.{Bounds}
use Rattle.line_text.specs.declared.forms.Reject.{Reject}
use Rattle.line_text.specs.declared.forms.Reject.TheVariants.{Bad}
use Rattle.line_text.specs.Words.{Cut, cut, words_of, is_digit, AreLetters}

-- What the words of a line may be. A form stands behind some words: one of its literal words may follow, or a number
-- within its bounds, and leads to another form; or the line ends there, and says so.
pub record Grammar (Form Line : Type 0) : Type 0 where
  pub words : Form → List (List ℕ)
  pub after_word : Form → ℕ → Form
  pub bounds : Form → Option Bounds
  pub after_number : Form → ℕ → Form
  pub says : Form → Option Line
  -- where a line stands that begins with a blank
  pub indented : Form → Form
  -- the number that may come next ends at a dot, right behind which the next form's number stands
  pub joined : Form → Bool

abbrev pub then_leads : {A B : Type 0} → Result A Reject → (A → Result B Reject) → Result B Reject
then_leads (Ok a) f = f a
then_leads (Err reject) f = Err reject

abbrev pub or_bad : {A : Type 0} → Option A → Result A Reject
or_bad (Some a) = Ok a
or_bad None = Err Bad

-- the place of a word in a list of words, counted from a number on
abbrev pub place_from : ℕ → List (List ℕ) → List ℕ → Option ℕ
place_from place [] word = None
place_from place (first ∷ words) word = if pointwise ◌==◌ first word then Some place else place_from (place + 1) words word

-- the number, if it is within the bounds
abbrev pub bounded : Bounds → ℕ → Result ℕ Reject
bounded bounds number =
    if nat_lt bounds.most number then Err bounds.above else (if nat_lt number bounds.least then Err Bad else Ok number)

abbrev pub number_leads : {Form Line : Type 0} → Grammar Form Line → Form → ℕ → Result Form Reject
number_leads G form number = then_leads (or_bad (G.bounds form)) (λ bounds. then_leads (bounded bounds number) (λ bounded. Ok (G.after_number form bounded)))

-- where a number leads at the end of its word
abbrev pub ends_number : {Form Line : Type 0} → Grammar Form Line → Form → ℕ → Result Form Reject
ends_number G form number = if G.joined form then Err Bad else number_leads G form number

-- the byte is the dot behind the form's number
abbrev pub is_dot : {Form Line : Type 0} → Grammar Form Line → Form → ℕ → Bool
is_dot G form byte = G.joined form && byte == 46

-- Where the rest of a word of numbers leads, and what its digits so far have written, if there were any.
abbrev pub rest_leads : {Form Line : Type 0} → Grammar Form Line → Form → Option ℕ → List ℕ → Result Form Reject
rest_leads G form None [] = Err Bad
rest_leads G form (Some number) [] = ends_number G form number
rest_leads G form None (byte ∷ bytes) = if is_digit byte then rest_leads G form (Some (0 * 10 + digit_value byte)) bytes else Err Bad
rest_leads G form (Some number) (byte ∷ bytes) =
    if is_digit byte then rest_leads G form (Some (number * 10 + digit_value byte)) bytes
    else (if is_dot G form byte then then_leads (number_leads G form number) (λ next. rest_leads G next None bytes) else Err Bad)

-- where a number may come, a word that begins with a digit is one, or several that are joined
abbrev pub is_number : {Form Line : Type 0} → Grammar Form Line → Form → List ℕ → Bool
is_number G form [] = false
is_number G form (letter ∷ letters) = is_some (G.bounds form) && is_digit letter

-- where a word leads
abbrev pub word_leads : {Form Line : Type 0} → Grammar Form Line → Form → List ℕ → Result Form Reject
word_leads G form word =
    if is_number G form word then rest_leads G form None word
    else then_leads (or_bad (place_from 0 (G.words form) word)) (λ place. Ok (G.after_word form place))

abbrev pub says_end : {Form Line : Type 0} → Grammar Form Line → Form → Result (Option Line) Reject
says_end G form = then_leads (or_bad (G.says form)) (λ line. Ok (Some line))

-- what a line says from a form on, with these words
abbrev pub says_words : {Form Line : Type 0} → Grammar Form Line → Form → List (List ℕ) → Result (Option Line) Reject
says_words G form [] = says_end G form
says_words G form (word ∷ words) = then_leads (word_leads G form word) (λ next. says_words G next words)

-- What a line of these words says. It says nothing if it has none, or a number sign is the first letter: then it is a comment.
abbrev pub says_line : {Form Line : Type 0} → Grammar Form Line → Form → List (List ℕ) → Result (Option Line) Reject
says_line G form [] = Ok None
says_line G form ([] ∷ words) = says_words G form ([] ∷ words)
says_line G form ((letter ∷ letters) ∷ words) = if letter == 35 then Ok None else says_words G form ((letter ∷ letters) ∷ words)

-- the same of a line with these letters before its first blank
abbrev pub says_lead : {Form Line : Type 0} → Grammar Form Line → Form → List ℕ → List (List ℕ) → Result (Option Line) Reject
says_lead G form [] others = says_line G (G.indented form) others
says_lead G form (letter ∷ letters) others = says_line G form ((letter ∷ letters) ∷ others)

-- What a line, without its end, says: nothing, or a line of the grammar; or why it says neither.
abbrev pub line_says : {Form Line : Type 0} → Grammar Form Line → Form → List ℕ → Result (Option Line) Reject
line_says G form line = says_lead G form (cut line).word (cut line).others

abbrev pub word_at : {Form Line : Type 0} → Grammar Form Line → Form → ℕ → List ℕ
word_at G form index = slice_index_or (G.words form) index []

pub record IsBounds (bounds : Bounds) : Type 0 where
  pub digit : bounds.least ≤ 9
  pub some : bounds.least ≤ bounds.most
  pub fits : bounds.most < 2 ^ 64
  pub one_sided : (bounds.least ≡ 0) ⊎ (bounds.above ≡ Bad)

-- what a line says from a form on, whose number stands at once
abbrev pub says_number : {Form Line : Type 0} → Grammar Form Line → Form → Option ℕ → Cut → Result (Option Line) Reject
says_number G form number cut = then_leads (rest_leads G form number cut.word) (λ next. says_words G next cut.others)

-- some line goes on with a number of the form
abbrev pub MayJoin : {Form Line : Type 0} → Grammar Form Line → Form → Type 0
MayJoin {Form} {Line} G form = (rest : List ℕ) × (line : Line) × (says_number G form None (cut rest) ≡ Ok (Some line))

-- What a grammar owes: from each of its forms some line goes on.
pub record IsGrammar {Form Line : Type 0} (G : Grammar Form Line) (IsForm : Form → Type 0) : Type 0 where
  pub word : (form : Form) (index : ℕ) → IsForm form → index < length (G.words form) → IsForm (G.after_word form index)
  pub number : (form : Form) (bounds : Bounds) (number : ℕ) → IsForm form → G.bounds form ≡ Some bounds → bounds.least ≤ number → number ≤ bounds.most → IsForm (G.after_number form number)
  pub indents : (form : Form) → IsForm form → IsForm (G.indented form)
  pub indents_once : (form : Form) → G.indented (G.indented form) ≡ G.indented form
  pub letters : (form : Form) (index : ℕ) → IsForm form → index < length (G.words form) → AreLetters (word_at G form index)
  pub bounds : (form : Form) (bounds : Bounds) → IsForm form → G.bounds form ≡ Some bounds → IsBounds bounds
  pub joins : (form : Form) (bounds : Bounds) (number : ℕ) → IsForm form → G.bounds form ≡ Some bounds → bounds.least ≤ number → number ≤ bounds.most → G.joined form ≡ true → MayJoin G (G.after_number form number)
  pub goes_on : (form : Form) → IsForm form → (rest : List ℕ) × (line : Line) × (says_words G form (words_of (cut rest)) ≡ Ok (Some line))

-- a line says so behind some words, if it says anything
abbrev pub IsSaid : {Form Line : Type 0} → Grammar Form Line → (Form → Type 0) → Option Line → Type 0
IsSaid G IsForm None = Unit {0}
IsSaid {Form} G IsForm (Some line) = (form : Form) × IsForm form × (G.says form ≡ Some line)
