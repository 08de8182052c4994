-- The shared words of the machine.
use Rattle.std.specs.Prelude.{ℕ}
use Rattle.pool_core.specs.Headers.{header_word}
use Rattle.pool_core.specs.FreeWords.{free_head_word}
use Rattle.pool_core.specs.declared.headers.Header.{Header}
use Rattle.pool_core.specs.declared.free_words.FreeWord.{FreeWord}
use Rattle.epoch_laws.specs.declared.tokens.Token.{Token}
use Rattle.epoch_laws.specs.Places.{Place}

-- What stands in each word. Headers and free heads are written as what their words say
pub record Words : Type 0 where
  pub epoch : ℕ
  pub election : ℕ
  pub epoch_of : ℕ → ℕ
  pub election_of : ℕ → ℕ
  -- of a locale and a list number
  pub list_head : ℕ → ℕ → ℕ
  pub free_head : ℕ → FreeWord
  pub home_head : ℕ → ℕ
  pub token_word : Token → ℕ
  pub header : Place → Header
  pub next : Place → ℕ

-- the names of the words
pub data WordName : Type 0 where
  global_epoch global_election : WordName
  local_epoch local_election : ℕ → WordName
  list : ℕ → ℕ → WordName
  free_stack home_chain : ℕ → WordName
  token : Token → WordName
  header_of next_of : Place → WordName

-- the number that stands in the word with this name
abbrev pub word_at : Words → WordName → ℕ
word_at words global_epoch = words.epoch
word_at words global_election = words.election
word_at words (local_epoch l) = words.epoch_of l
word_at words (local_election l) = words.election_of l
word_at words (list l m) = words.list_head l m
word_at words (free_stack l) = let head = words.free_head l in free_head_word head.count head.index
word_at words (home_chain l) = words.home_head l
word_at words (token t) = words.token_word t
word_at words (header_of p) = let header = words.header p in header_word header.count header.state
word_at words (next_of p) = words.next p
