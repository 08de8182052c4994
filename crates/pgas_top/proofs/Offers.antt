-- Which words name which commands.
use Rattle.std.proofs.Common.{◌≡◌, ℕ, List, [], ◌∷◌, Option, None, Some, MatchOption, codes, ap, sym, ◌∙◌, subst, arith, slice_index}
use Rattle.pgas_top.specs.Commands.{NameMake, NamePlain, Names, NeedsOneThread, Request, Plain, Run, Check, Make, request_of}
use Rattle.pgas_top.specs.declared.commands.Command.{Command}

-- the first byte of the first word
first_byte : List (List ℕ) → ℕ
first_byte [] = 0
first_byte (word ∷ words) = slice_index word 0

-- the words of `run` name no command that needs one thread
pub run_needs_more : (words : List (List ℕ)) → Names words Run → (command : Request) → NeedsOneThread command → Names words command → ⊥
unfolding first_byte
run_needs_more words run (Plain sources) needs plain = omega (arith, ap first_byte (sym run ∙ plain.1))
run_needs_more words run Run needs named = needs
run_needs_more words run Check needs check = omega (arith, ap first_byte (sym run ∙ check))
run_needs_more words run (Make seed vertices edges) needs make = omega (arith, ap first_byte (sym run ∙ make.1))

-- the words behind the first
rest_of : List (List ℕ) → List (List ℕ)
rest_of [] = []
rest_of (word ∷ words) = words

-- what the words behind `plain` name is what all name
pub names_plain : (words rest : List (List ℕ)) (answer : Option Command) → words ≡ codes "plain" ∷ rest
    → MatchOption answer ((sources : List ℕ) → NamePlain rest sources → ⊥) (λ command. (sources : List ℕ) × (request_of command ≡ Plain sources) × NamePlain rest sources)
    → MatchOption answer ((request : Request) → NeedsOneThread request → Names words request → ⊥) (λ command. NeedsOneThread (request_of command) × Names words (request_of command))
unfolding first_byte rest_of
names_plain words rest (Some command) is named = subst (λ (r : Request). NeedsOneThread r × Names words r) (sym named.1) (tt, (rest, is, named.2))
names_plain words rest None is named = other
  where
    other : (request : Request) → NeedsOneThread request → Names words request → ⊥
    other (Plain sources) needs plain = named sources (subst (λ (ws : List (List ℕ)). NamePlain ws sources) (ap rest_of (sym plain.1 ∙ is)) plain.2)
    other Run needs run = needs
    other Check needs check = omega (arith, ap first_byte (sym check ∙ is))
    other (Make seed vertices edges) needs make = omega (arith, ap first_byte (sym make.1 ∙ is))

-- the same of `make`
pub names_make : (words rest : List (List ℕ)) (answer : Option Command) → words ≡ codes "make" ∷ rest
    → MatchOption answer ((seed vertices edges : ℕ) → NameMake rest seed vertices edges → ⊥) (λ command. (seed : ℕ) × (vertices : ℕ) × (edges : ℕ) × (request_of command ≡ Make seed vertices edges) × NameMake rest seed vertices edges)
    → MatchOption answer ((request : Request) → NeedsOneThread request → Names words request → ⊥) (λ command. NeedsOneThread (request_of command) × Names words (request_of command))
unfolding first_byte rest_of
names_make words rest (Some command) is named = subst (λ (r : Request). NeedsOneThread r × Names words r) (sym named.3) (tt, (rest, is, named.4))
names_make words rest None is named = other
  where
    other : (request : Request) → NeedsOneThread request → Names words request → ⊥
    other (Plain sources) needs plain = omega (arith, ap first_byte (sym plain.1 ∙ is))
    other Run needs run = needs
    other Check needs check = omega (arith, ap first_byte (sym check ∙ is))
    other (Make seed vertices edges) needs make = named seed vertices edges (subst (λ (ws : List (List ℕ)). NameMake ws seed vertices edges) (ap rest_of (sym make.1 ∙ is)) make.2)

-- the same of `check`
pub names_check : (words rest : List (List ℕ)) (answer : Option Command) → words ≡ codes "check" ∷ rest
    → MatchOption answer (rest ≡ [] → ⊥) (λ command. (request_of command ≡ Check) × (rest ≡ []))
    → MatchOption answer ((request : Request) → NeedsOneThread request → Names words request → ⊥) (λ command. NeedsOneThread (request_of command) × Names words (request_of command))
unfolding first_byte rest_of
names_check words rest (Some command) is named =
    subst (λ (r : Request). NeedsOneThread r × Names words r) (sym named.0) (tt, is ∙ ap (λ (ws : List (List ℕ)). codes "check" ∷ ws) named.1)
names_check words rest None is named = other
  where
    other : (request : Request) → NeedsOneThread request → Names words request → ⊥
    other (Plain sources) needs plain = omega (arith, ap first_byte (sym plain.1 ∙ is))
    other Run needs run = needs
    other Check needs check = named (ap rest_of (sym is ∙ check))
    other (Make seed vertices edges) needs make = omega (arith, ap first_byte (sym make.1 ∙ is))
