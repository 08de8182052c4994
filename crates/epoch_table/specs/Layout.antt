-- Where the words of a manager stand in its table.
-- The two global words come first. Then each locale has five cache lines: its epoch, its election, its four lists, the head of its stack and that of its
-- home chain. Then each token has a line. Then each object has its header, its next word and its row. Then each word of the client has a line.
use Rattle.std.specs.Prelude.{◌≡◌, ℕ, ◌+◌, ◌-◌, ◌*◌, ◌/◌, ◌%◌, ◌^◌, ◌<◌, ltb, if◌then◌else◌}
use Rattle.pgas_base.specs.declared.shapes.Shape.{Shape}
use Rattle.pgas_base.specs.Shapes.{IsShape}
use Rattle.pgas_base.specs.declared.spots.Spot.{Spot}
use Rattle.pgas_base.specs.declared.spots.Spot.TheVariants.{Own as OwnSpot, Row as RowSpot}
use Rattle.epoch_laws.specs.Places.{Place, place_of}
use Rattle.pgas_base.specs.declared.starts.Start.{Start}
use Rattle.epoch_laws.specs.States.{IsPlace, opening_words}
use Rattle.epoch_laws.specs.declared.tokens.Token.{Token}
use Rattle.epoch_laws.specs.Timing.{IsToken}
use Rattle.epoch_laws.specs.Words.{WordName, global_epoch, global_election, local_epoch, local_election, list, free_stack, home_chain, token, header_of, next_of, word_at}

-- a word of the table: one of the machine, one in the row of an object, or one of the client's own
pub data Site : Type 0 where
  Named : WordName → Site
  InRow : Place → ℕ → Site
  OfClient : ℕ → Site

-- the word of a spot
abbrev pub site_of : Spot → Site
site_of (OwnSpot word) = OfClient word
site_of (RowSpot q at) = InRow (place_of q) at

-- the words of one cache line
abbrev pub line : ℕ
line = 8

-- the words from one locale to the next
abbrev pub locale_stride : ℕ
locale_stride = 40

abbrev pub locale_place : ℕ → ℕ
locale_place l = 16 + l * locale_stride

module _ (shape : Shape) where
  abbrev pub tokens_place : ℕ
  tokens_place = locale_place shape.locales

  abbrev pub objects_place : ℕ
  objects_place = tokens_place + shape.locales * shape.tokens * line

  abbrev pub client_place : ℕ
  client_place = objects_place + shape.locales * shape.objects * (shape.width + 2)

  -- so many words on the tokens, the objects and the client's words begin, and so many words have an object and all objects of a locale
  pub record IsLaidOut (tokens objects client object_words locale_words : ℕ) : Type 0 where
    pub is_shape : IsShape shape
    pub tokens_begin : tokens ≡ tokens_place
    pub objects_begin : objects ≡ objects_place
    pub client_begins : client ≡ client_place
    pub low : client < 2 ^ 32
    pub of_object : object_words ≡ shape.width + 2
    pub of_locale : locale_words ≡ shape.objects * (shape.width + 2)

  -- how many words the table has, with so many of the client's
  abbrev pub table_words : ℕ → ℕ
  table_words own = client_place + own * line

  abbrev pub object_place : Place → ℕ
  object_place p = objects_place + (p.locale * shape.objects + (p.index - 1)) * (shape.width + 2)

  abbrev pub named_place : WordName → ℕ
  named_place global_epoch = 0
  named_place global_election = line
  named_place (local_epoch l) = locale_place l
  named_place (local_election l) = locale_place l + line
  named_place (list l m) = locale_place l + 2 * line + m
  named_place (free_stack l) = locale_place l + 3 * line
  named_place (home_chain l) = locale_place l + 4 * line
  named_place (token t) = tokens_place + (t.locale * shape.tokens + t.number) * line
  named_place (header_of p) = object_place p
  named_place (next_of p) = object_place p + 1

  abbrev pub token_place : Token → ℕ
  token_place t = named_place (token t)

  abbrev pub place : Site → ℕ
  place (Named name) = named_place name
  place (InRow p at) = object_place p + 2 + at
  place (OfClient word) = client_place + word * line

  -- the name is one of the shape's words
  abbrev pub IsNamed : WordName → Type 0
  IsNamed global_epoch = Unit {0}
  IsNamed global_election = Unit {0}
  IsNamed (local_epoch l) = l < shape.locales
  IsNamed (local_election l) = l < shape.locales
  IsNamed (list l m) = (l < shape.locales) × (m < 4)
  IsNamed (free_stack l) = l < shape.locales
  IsNamed (home_chain l) = l < shape.locales
  IsNamed (token t) = IsToken shape.locales shape.tokens t
  IsNamed (header_of p) = IsPlace shape p
  IsNamed (next_of p) = IsPlace shape p

  abbrev pub IsSite : Site → Type 0
  IsSite (Named name) = IsNamed name
  IsSite (InRow p at) = IsPlace shape p × (at < shape.width)
  IsSite (OfClient word) = Unit {0}

-- the word of a locale with this offset
unfoldable pub locale_site : ℕ → ℕ → Site
locale_site l r =
    if ltb r 8 then Named (local_epoch l)
    else (if ltb r 16 then Named (local_election l) else (if ltb r 24 then Named (list l (r - 16)) else (if ltb r 32 then Named (free_stack l) else Named (home_chain l))))

-- the word of an object with this offset
unfoldable pub object_site : Place → ℕ → Site
object_site p r = if ltb r 1 then Named (header_of p) else (if ltb r 2 then Named (next_of p) else InRow p (r - 2))

module _ (shape : Shape) where
  unfoldable pub object_at : ℕ → Place
  object_at i = record { locale = i / shape.objects; index = i % shape.objects + 1 }

  unfoldable pub token_in : ℕ → Site
  token_in i = Named (token (record { locale = i / shape.tokens; number = i % shape.tokens }))

  -- what stands at a place
  unfoldable pub site_at : ℕ → Site
  site_at n =
      if ltb n 16 then (if ltb n 8 then Named global_epoch else Named global_election)
      else (if ltb n (tokens_place shape) then locale_site ((n - 16) / 40) ((n - 16) % 40)
      else (if ltb n (objects_place shape) then token_in ((n - tokens_place shape) / 8)
      else (if ltb n (client_place shape) then object_site (object_at ((n - objects_place shape) / (shape.width + 2))) ((n - objects_place shape) % (shape.width + 2))
      else OfClient ((n - client_place shape) / 8))))

  -- the number that opens at a word: that of the machine, and 0 in rows and of the client
  unfoldable pub opening_number : Start → Site → ℕ
  opening_number start (Named name) = word_at (opening_words shape start) name
  opening_number start (InRow p at) = 0
  opening_number start (OfClient word) = 0
