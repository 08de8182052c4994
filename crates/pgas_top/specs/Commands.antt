use Rattle.std.specs.Prelude.{◌≡◌, ℕ, ◌<◌, ◌≤◌, ◌^◌, ◌==◌, Bool, List, [], ◌∷◌, codes, length}
use Rattle.std.specs.List.{slice_split}
use Rattle.pgas_top.specs.Options.{HasNumber, IsNumberWord, options_of}
use Rattle.pgas_top.specs.declared.commands.Command.{Command}
use Rattle.pgas_top.specs.declared.commands.Command.TheVariants as command

-- what words ask for
pub data Request : Type 0 where
  -- the levels of the edge list from these sources
  Plain : (sources : List ℕ) → Request
  -- the replies to the script
  Run : Request
  -- whether the steps are a run of the epoch machine, and what they list
  Check : Request
  -- the edge list that the seed has, with so many vertices and edges
  Make : (seed vertices edges : ℕ) → Request

abbrev pub request_of : Command → Request
request_of (command.Plain sources) = Plain sources.items
request_of command.Check = Check
request_of (command.Make seed vertices edges) = Make seed vertices edges

abbrev pub is_comma : ℕ → Bool
is_comma byte = byte == 44

-- the words are numbers of vertices, one each, in order
abbrev pub AreSources : List (List ℕ) → List ℕ → Type 0
AreSources [] [] = Unit {0}
AreSources [] (source ∷ sources) = ⊥
AreSources (word ∷ words) [] = ⊥
AreSources (word ∷ words) (source ∷ sources) = IsNumberWord word source × (source < 2 ^ 24) × AreSources words sources

-- the words behind `plain`: one, of 1 to 64 numbers parted by single commas
abbrev pub NamePlain : List (List ℕ) → List ℕ → Type 0
NamePlain words sources = (word : List ℕ) × (words ≡ word ∷ []) × AreSources (slice_split is_comma word) sources × (length sources ≤ 64)

-- the words behind `make`: its three options, each once, in any order
pub record NameMake (words : List (List ℕ)) (seed vertices edges : ℕ) : Type 0 where
  pub three : length (options_of words) ≡ 3
  pub seed_is : HasNumber (options_of words) (codes "--seed") seed
  pub seed_fits : seed < 2 ^ 64
  pub vertices_are : HasNumber (options_of words) (codes "--vertices") vertices
  pub some_vertices : 0 < vertices
  pub few_vertices : vertices ≤ 2 ^ 24
  pub edges_are : HasNumber (options_of words) (codes "--edges") edges
  pub few_edges : edges ≤ 2 ^ 25

-- the words name the command, and say what it is asked for
abbrev pub Names : List (List ℕ) → Request → Type 0
Names words (Plain sources) = (rest : List (List ℕ)) × (words ≡ codes "plain" ∷ rest) × NamePlain rest sources
Names words Run = words ≡ codes "run" ∷ []
Names words Check = words ≡ codes "check" ∷ []
Names words (Make seed vertices edges) = (rest : List (List ℕ)) × (words ≡ codes "make" ∷ rest) × NameMake rest seed vertices edges

-- commands that need one thread alone
abbrev pub NeedsOneThread : Request → Type 0
NeedsOneThread (Plain sources) = Unit {0}
NeedsOneThread Run = ⊥
NeedsOneThread Check = Unit {0}
NeedsOneThread (Make seed vertices edges) = Unit {0}
