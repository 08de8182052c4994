-- What a machine shows after one of its words was stored.
use Rattle.std.proofs.Common.{◌≡◌, ◌<◌, ◌≤◌, ◌+◌, ◌*◌, ◌^◌, ℕ, Vec, Global, Option, slice_set, refl}
use Rattle.pool_core.specs.declared.headers.Header.{Header}
use Rattle.pool_core.specs.declared.free_words.FreeWord.{FreeWord}
use Rattle.epoch_laws.specs.declared.tokens.Token.{Token}
use Rattle.epoch_laws.specs.Places.{Place, with_number, with_place, with_token}
use Rattle.epoch_laws.specs.DeferralSteps.{with_list}
use Rattle.epoch_laws.specs.States.{IsPlace, State}
use Rattle.epoch_laws.proofs.Updates.{at_number}
use Rattle.epoch_core.specs.declared.machine.Machine.{Machine}
use Rattle.epoch_core.specs.Shown.{IsShowing}
use Rattle.epoch_core.specs.Tables.{IsToken, token_number, place_number}
use Rattle.epoch_core.proofs.Tables.{number-with, token-with, place-with, list-with}

module _ (m : Machine) (s : State) (sh : IsShowing m s) where
  pub token_stored : (v : Vec ℕ Global) (t : Token) (word : ℕ) → IsToken m.shape t → v.items ≡ slice_set m.tokens.items (token_number m.shape t) word → IsShowing (record m { tokens = v }) (record s { words = record s.words { token_word = with_token s.words.token_word t word } })
  token_stored v t word inside is = record {
    shaped = sh.shaped;
    shape = sh.shape;
    words = record {
      epoch = sh.words.epoch;
      election = sh.words.election;
      epochs = sh.words.epochs;
      elections = sh.words.elections;
      lists = sh.words.lists;
      free_heads = sh.words.free_heads;
      home_heads = sh.words.home_heads;
      tokens = token-with m.shape m.tokens.items v.items s.words.token_word t word sh.words.tokens inside is;
      headers = sh.words.headers;
      next = sh.words.next;
    };
    low = record {
      epoch = sh.low.epoch;
      epoch_of = sh.low.epoch_of;
      free_index = sh.low.free_index;
      free_count = sh.low.free_count;
    };
    tags = sh.tags;
    seats = record { count = sh.seats.count; each = sh.seats.each; counted = sh.seats.counted };
    marks = sh.marks;
  }

  pub next_stored : (v : Vec ℕ Global) (p : Place) (word : ℕ) → IsPlace m.shape p → v.items ≡ slice_set m.next.items (place_number m.shape p) word → IsShowing (record m { next = v }) (record s { words = record s.words { next = with_place s.words.next p word } })
  next_stored v p word inside is = record {
    shaped = sh.shaped;
    shape = sh.shape;
    words = record {
      epoch = sh.words.epoch;
      election = sh.words.election;
      epochs = sh.words.epochs;
      elections = sh.words.elections;
      lists = sh.words.lists;
      free_heads = sh.words.free_heads;
      home_heads = sh.words.home_heads;
      tokens = sh.words.tokens;
      headers = sh.words.headers;
      next = place-with m.shape m.next.items v.items s.words.next p word sh.words.next inside is;
    };
    low = record {
      epoch = sh.low.epoch;
      epoch_of = sh.low.epoch_of;
      free_index = sh.low.free_index;
      free_count = sh.low.free_count;
    };
    tags = sh.tags;
    seats = record { count = sh.seats.count; each = sh.seats.each; counted = sh.seats.counted };
    marks = sh.marks;
  }

  pub header_stored : (v : Vec Header Global) (p : Place) (header : Header) → IsPlace m.shape p → v.items ≡ slice_set m.headers.items (place_number m.shape p) header → IsShowing (record m { headers = v }) (record s { words = record s.words { header = with_place s.words.header p header } })
  header_stored v p header inside is = record {
    shaped = sh.shaped;
    shape = sh.shape;
    words = record {
      epoch = sh.words.epoch;
      election = sh.words.election;
      epochs = sh.words.epochs;
      elections = sh.words.elections;
      lists = sh.words.lists;
      free_heads = sh.words.free_heads;
      home_heads = sh.words.home_heads;
      tokens = sh.words.tokens;
      headers = place-with m.shape m.headers.items v.items s.words.header p header sh.words.headers inside is;
      next = sh.words.next;
    };
    low = record {
      epoch = sh.low.epoch;
      epoch_of = sh.low.epoch_of;
      free_index = sh.low.free_index;
      free_count = sh.low.free_count;
    };
    tags = sh.tags;
    seats = record { count = sh.seats.count; each = sh.seats.each; counted = sh.seats.counted };
    marks = sh.marks;
  }

  pub tag_stored : (v : Vec (Option ℕ) Global) (p : Place) (tag : Option ℕ) → IsPlace m.shape p → v.items ≡ slice_set m.tags.items (place_number m.shape p) tag → IsShowing (record m { tags = v }) (record s { tag = with_place s.tag p tag })
  tag_stored v p tag inside is = record {
    shaped = sh.shaped;
    shape = sh.shape;
    words = record {
      epoch = sh.words.epoch;
      election = sh.words.election;
      epochs = sh.words.epochs;
      elections = sh.words.elections;
      lists = sh.words.lists;
      free_heads = sh.words.free_heads;
      home_heads = sh.words.home_heads;
      tokens = sh.words.tokens;
      headers = sh.words.headers;
      next = sh.words.next;
    };
    low = record {
      epoch = sh.low.epoch;
      epoch_of = sh.low.epoch_of;
      free_index = sh.low.free_index;
      free_count = sh.low.free_count;
    };
    tags = place-with m.shape m.tags.items v.items s.tag p tag sh.tags inside is;
    seats = record { count = sh.seats.count; each = sh.seats.each; counted = sh.seats.counted };
    marks = sh.marks;
  }

  pub epoch_of_stored : (v : Vec ℕ Global) (l word : ℕ) → l < m.shape.locales → word ≤ 2 ^ 62 → v.items ≡ slice_set m.epochs.items l word → IsShowing (record m { epochs = v }) (record s { words = record s.words { epoch_of = with_number s.words.epoch_of l word } })
  epoch_of_stored v l word inside low is = record {
    shaped = sh.shaped;
    shape = sh.shape;
    words = record {
      epoch = sh.words.epoch;
      election = sh.words.election;
      epochs = number-with m.shape.locales m.epochs.items v.items s.words.epoch_of l word sh.words.epochs inside is;
      elections = sh.words.elections;
      lists = sh.words.lists;
      free_heads = sh.words.free_heads;
      home_heads = sh.words.home_heads;
      tokens = sh.words.tokens;
      headers = sh.words.headers;
      next = sh.words.next;
    };
    low = record {
      epoch = sh.low.epoch;
      epoch_of = at_number (λ k e. k < m.shape.locales → e ≤ 2 ^ 62) s.words.epoch_of l word (λ _. low) (λ k _. sh.low.epoch_of k);
      free_index = sh.low.free_index;
      free_count = sh.low.free_count;
    };
    tags = sh.tags;
    seats = record { count = sh.seats.count; each = sh.seats.each; counted = sh.seats.counted };
    marks = sh.marks;
  }

  pub election_of_stored : (v : Vec ℕ Global) (l word : ℕ) → l < m.shape.locales → v.items ≡ slice_set m.elections.items l word → IsShowing (record m { elections = v }) (record s { words = record s.words { election_of = with_number s.words.election_of l word } })
  election_of_stored v l word inside is = record {
    shaped = sh.shaped;
    shape = sh.shape;
    words = record {
      epoch = sh.words.epoch;
      election = sh.words.election;
      epochs = sh.words.epochs;
      elections = number-with m.shape.locales m.elections.items v.items s.words.election_of l word sh.words.elections inside is;
      lists = sh.words.lists;
      free_heads = sh.words.free_heads;
      home_heads = sh.words.home_heads;
      tokens = sh.words.tokens;
      headers = sh.words.headers;
      next = sh.words.next;
    };
    low = record {
      epoch = sh.low.epoch;
      epoch_of = sh.low.epoch_of;
      free_index = sh.low.free_index;
      free_count = sh.low.free_count;
    };
    tags = sh.tags;
    seats = record { count = sh.seats.count; each = sh.seats.each; counted = sh.seats.counted };
    marks = sh.marks;
  }

  pub home_head_stored : (v : Vec ℕ Global) (l word : ℕ) → l < m.shape.locales → v.items ≡ slice_set m.home_heads.items l word → IsShowing (record m { home_heads = v }) (record s { words = record s.words { home_head = with_number s.words.home_head l word } })
  home_head_stored v l word inside is = record {
    shaped = sh.shaped;
    shape = sh.shape;
    words = record {
      epoch = sh.words.epoch;
      election = sh.words.election;
      epochs = sh.words.epochs;
      elections = sh.words.elections;
      lists = sh.words.lists;
      free_heads = sh.words.free_heads;
      home_heads = number-with m.shape.locales m.home_heads.items v.items s.words.home_head l word sh.words.home_heads inside is;
      tokens = sh.words.tokens;
      headers = sh.words.headers;
      next = sh.words.next;
    };
    low = record {
      epoch = sh.low.epoch;
      epoch_of = sh.low.epoch_of;
      free_index = sh.low.free_index;
      free_count = sh.low.free_count;
    };
    tags = sh.tags;
    seats = record { count = sh.seats.count; each = sh.seats.each; counted = sh.seats.counted };
    marks = sh.marks;
  }

  pub free_head_stored : (v : Vec FreeWord Global) (l : ℕ) (head : FreeWord) → l < m.shape.locales → head.count < 2 ^ 40 → head.index ≤ m.shape.objects → v.items ≡ slice_set m.free_heads.items l head → IsShowing (record m { free_heads = v }) (record s { words = record s.words { free_head = with_number s.words.free_head l head } })
  free_head_stored v l head inside low index is = record {
    shaped = sh.shaped;
    shape = sh.shape;
    words = record {
      epoch = sh.words.epoch;
      election = sh.words.election;
      epochs = sh.words.epochs;
      elections = sh.words.elections;
      lists = sh.words.lists;
      free_heads = number-with m.shape.locales m.free_heads.items v.items s.words.free_head l head sh.words.free_heads inside is;
      home_heads = sh.words.home_heads;
      tokens = sh.words.tokens;
      headers = sh.words.headers;
      next = sh.words.next;
    };
    low = record {
      epoch = sh.low.epoch;
      epoch_of = sh.low.epoch_of;
      free_index = at_number (λ k (h : FreeWord). k < m.shape.locales → h.index ≤ m.shape.objects) s.words.free_head l head (λ _. index) (λ k _. sh.low.free_index k);
      free_count = at_number (λ k (h : FreeWord). k < m.shape.locales → h.count < 2 ^ 40) s.words.free_head l head (λ _. low) (λ k _. sh.low.free_count k);
    };
    tags = sh.tags;
    seats = record { count = sh.seats.count; each = sh.seats.each; counted = sh.seats.counted };
    marks = sh.marks;
  }

  pub list_head_stored : (v : Vec ℕ Global) (l k word : ℕ) → l < m.shape.locales → k < 4 → v.items ≡ slice_set m.lists.items (l * 4 + k) word → IsShowing (record m { lists = v }) (record s { words = record s.words { list_head = with_list s.words.list_head l k word } })
  list_head_stored v l k word inside list is = record {
    shaped = sh.shaped;
    shape = sh.shape;
    words = record {
      epoch = sh.words.epoch;
      election = sh.words.election;
      epochs = sh.words.epochs;
      elections = sh.words.elections;
      lists = list-with m.shape m.lists.items v.items s.words.list_head l k word sh.words.lists inside list is;
      free_heads = sh.words.free_heads;
      home_heads = sh.words.home_heads;
      tokens = sh.words.tokens;
      headers = sh.words.headers;
      next = sh.words.next;
    };
    low = record {
      epoch = sh.low.epoch;
      epoch_of = sh.low.epoch_of;
      free_index = sh.low.free_index;
      free_count = sh.low.free_count;
    };
    tags = sh.tags;
    seats = record { count = sh.seats.count; each = sh.seats.each; counted = sh.seats.counted };
    marks = sh.marks;
  }

  pub election_stored : (word : ℕ) → IsShowing (record m { election = word }) (record s { words = record s.words { election = word } })
  election_stored word = record {
    shaped = sh.shaped;
    shape = sh.shape;
    words = record {
      epoch = sh.words.epoch;
      election = refl;
      epochs = sh.words.epochs;
      elections = sh.words.elections;
      lists = sh.words.lists;
      free_heads = sh.words.free_heads;
      home_heads = sh.words.home_heads;
      tokens = sh.words.tokens;
      headers = sh.words.headers;
      next = sh.words.next;
    };
    low = record {
      epoch = sh.low.epoch;
      epoch_of = sh.low.epoch_of;
      free_index = sh.low.free_index;
      free_count = sh.low.free_count;
    };
    tags = sh.tags;
    seats = record { count = sh.seats.count; each = sh.seats.each; counted = sh.seats.counted };
    marks = sh.marks;
  }

  pub epoch_stored : (word : ℕ) → word ≤ 2 ^ 62 → IsShowing (record m { epoch = word }) (record s { words = record s.words { epoch = word } })
  epoch_stored word low = record {
    shaped = sh.shaped;
    shape = sh.shape;
    words = record {
      epoch = refl;
      election = sh.words.election;
      epochs = sh.words.epochs;
      elections = sh.words.elections;
      lists = sh.words.lists;
      free_heads = sh.words.free_heads;
      home_heads = sh.words.home_heads;
      tokens = sh.words.tokens;
      headers = sh.words.headers;
      next = sh.words.next;
    };
    low = record {
      epoch = low;
      epoch_of = sh.low.epoch_of;
      free_index = sh.low.free_index;
      free_count = sh.low.free_count;
    };
    tags = sh.tags;
    seats = record { count = sh.seats.count; each = sh.seats.each; counted = sh.seats.counted };
    marks = sh.marks;
  }

  pub born_kept : (born : Token → ℕ) → IsShowing (record m { epoch = m.epoch }) (record s { born = born })
  born_kept born = record {
    shaped = sh.shaped;
    shape = sh.shape;
    words = record {
      epoch = sh.words.epoch;
      election = sh.words.election;
      epochs = sh.words.epochs;
      elections = sh.words.elections;
      lists = sh.words.lists;
      free_heads = sh.words.free_heads;
      home_heads = sh.words.home_heads;
      tokens = sh.words.tokens;
      headers = sh.words.headers;
      next = sh.words.next;
    };
    low = record {
      epoch = sh.low.epoch;
      epoch_of = sh.low.epoch_of;
      free_index = sh.low.free_index;
      free_count = sh.low.free_count;
    };
    tags = sh.tags;
    seats = record { count = sh.seats.count; each = sh.seats.each; counted = sh.seats.counted };
    marks = sh.marks;
  }
