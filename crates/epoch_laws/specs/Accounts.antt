-- What the items of a run say of its words, so that who reads such a word knows what was listed.
use Rattle.std.specs.Prelude.{◌==◌, ℕ, ◌+◌, true, false, if◌then◌else◌, List, fold}
use Rattle.pool_core.specs.declared.headers.Header.{Header}
use Rattle.pool_core.specs.declared.headers.State.TheVariants.{Free, Own, Shown, Worn}
use Rattle.epoch_laws.specs.declared.tokens.Token.{Token}
use Rattle.epoch_laws.specs.declared.events.EpochEvent.TheVariants.{Registered, Unregistered, Pinned, Unpinned, Given, Shown as IsShown, Returned, Freed}
use Rattle.epoch_laws.specs.declared.events.Item.{Item}
use Rattle.epoch_laws.specs.declared.events.Item.TheVariants.{Event, Claim, Leave}
use Rattle.epoch_laws.specs.Places.{Place, place_of, with_number, with_place, with_token}
use Rattle.epoch_laws.specs.ReclaimSteps.{last_count}
use Rattle.epoch_laws.specs.States.{State}

-- the words of tokens and elections, and the headers
pub record Account : Type 0 where
  pub token_word : Token → ℕ
  pub election : ℕ
  pub election_of : ℕ → ℕ
  pub header : Place → Header
  -- of a seat: the locale of the token that it registered last
  pub locale_of : ℕ → ℕ

-- no token is registered, no election won, and each object is free with this count
abbrev pub opening_account : ℕ → Account
opening_account count = record {
  token_word = λ t. 0;
  election = 0;
  election_of = λ l. 0;
  header = λ p. record { count = count; state = Free };
  locale_of = λ c. 0;
}

-- a header that was freed
unfoldable pub freed_header : ℕ → Header
freed_header count = if count == last_count then record { count = count; state = Worn } else record { count = count + 1; state = Free }

-- the account once this item is listed
unfoldable pub account_after : Account → Item → Account
account_after old (Event c (Registered t) tag) = record old { token_word = with_token old.token_word t 1; locale_of = with_number old.locale_of c t.locale }
account_after old (Event c (Unregistered t) tag) = record old { token_word = with_token old.token_word t 0 }
account_after old (Event c (Pinned t) tag) = record old { token_word = with_token old.token_word t (tag + 2) }
account_after old (Event c (Unpinned t) tag) = record old { token_word = with_token old.token_word t 1 }
account_after old (Event c (Given q) tag) = record old { header = with_place old.header (place_of q) (record { count = (old.header (place_of q)).count; state = Own }) }
account_after old (Event c (IsShown q) tag) = record old { header = with_place old.header (place_of q) (record { count = (old.header (place_of q)).count; state = Shown }) }
account_after old (Event c (Returned q) tag) = record old { header = with_place old.header (place_of q) (record { count = (old.header (place_of q)).count; state = Free }) }
account_after old (Event c (Freed q) tag) = record old { header = with_place old.header (place_of q) (freed_header (old.header (place_of q)).count) }
account_after old (Claim c true) = record old { election = 1 }
account_after old (Leave c true) = record old { election = 0 }
account_after old (Claim c false) = record old { election_of = with_number old.election_of (old.locale_of c) 1 }
account_after old (Leave c false) = record old { election_of = with_number old.election_of (old.locale_of c) 0 }
account_after old _ = old

-- what the items say, where each object opened free with this count
unfoldable pub account : ℕ → List Item → Account
account count items = fold account_after (opening_account count) items

-- what a state shows of it
abbrev pub account_of : State → Account
account_of s = record {
  token_word = s.words.token_word;
  election = s.words.election;
  election_of = s.words.election_of;
  header = s.words.header;
  locale_of = λ c. (s.seat c).token.locale;
}
