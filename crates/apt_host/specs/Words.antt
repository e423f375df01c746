-- What the words of a call ask for: the table of words.
use Rattle.std.specs.Prelude.{ℕ, ◌+◌, Bool, true, false, List, [], ◌∷◌, ◌++◌, Option, None, Some, codes, bytes_eq, length, min, if◌then◌else◌}
use Rattle.std.specs.List.{flat_map}
use Rattle.local_procs.specs.declared.local.Local.{Local}
use Rattle.local_children.specs.Streams.{local_named}
use Rattle.project_config.specs.Options.{option_in}
use Rattle.project_reading.specs.Configuration.{Options}

pub data Request : Type 0 where
  -- one build with these options over those of the configuration; of one key the last counts
  Build : (options : Options) → Request
  -- a child with this processor, which the program has itself
  Serve : (local : Local) → Request
  -- the table of words
  Help : Request
  -- the place of the first word that no line of the table has there, or the number of words where one is missing
  Bad : (at : ℕ) → Request

-- a refusal of what was asked for has a line; the output of a child has its frames alone
abbrev pub has_line : Request → Bool
has_line (Build options) = true
has_line (Serve local) = false
has_line Help = true
has_line (Bad at) = true

-- ---- what the words behind the first one ask for

-- where every build is clean, this asks for nothing more
abbrev pub full_word : List ℕ
full_word = codes "--full"

-- the word at this place, which is to be an option; go says what the words behind it ask for
abbrev pub with_option : ℕ → Option (List ℕ × List ℕ) → (List ℕ × List ℕ → Request) → Request
with_option at None go = Bad at
with_option at (Some option) go = go option

-- The words from this place on, behind these options. `--full` stands once at most, at any place, and every other word is an option.
abbrev pub build_from : ℕ → Bool → Options → List (List ℕ) → Request
build_from at full options [] = Build options
build_from at full options (word ∷ words) =
    if bytes_eq word full_word then (if full then Bad at else build_from (at + 1) true options words)
    else with_option at (option_in word) (λ option. build_from (at + 1) full (options ++ option ∷ []) words)

abbrev pub build_of : List (List ℕ) → Request
build_of words = build_from 1 false [] words

-- behind the name of a processor, if it is one, no word may come
abbrev pub serve_by : Option Local → List (List ℕ) → Request
serve_by None words = Bad 1
serve_by (Some local) [] = Serve local
serve_by (Some local) (word ∷ words) = Bad 2

abbrev pub serve_of : List (List ℕ) → Request
serve_of [] = Bad 1
serve_of (name ∷ words) = serve_by (local_named name) words

-- behind a command that takes no words none may come
abbrev pub alone : Request → List (List ℕ) → Request
alone request [] = request
alone request (word ∷ words) = Bad 1

-- ---- the table

-- a line of the table: how it is shown, the first word, and what the words behind that ask for
pub record Line : Type 0 where
  pub shown : List ℕ
  pub command : List ℕ
  pub reads : List (List ℕ) → Request

abbrev pub line : List ℕ → List ℕ → (List (List ℕ) → Request) → Line
line shown command reads = record { shown = shown; command = command; reads = reads }

-- the commands that there are
abbrev pub table : List Line
table =
    line (codes "build [--full] [key=value]..") (codes "build") build_of ∷
    line (codes "serve NAME") (codes "serve") serve_of ∷
    line (codes "help") (codes "help") (alone Help) ∷ []

-- what `help` prints: each line of the table as it is shown
abbrev pub help_text : List ℕ
help_text = flat_map (λ (row : Line). row.shown ++ codes "\n") table

-- the first word says which line of the table counts
abbrev pub request_in : List Line → List ℕ → List (List ℕ) → Request
request_in [] word words = Bad 0
request_in (row ∷ rows) word words = if bytes_eq word row.command then row.reads words else request_in rows word words

abbrev pub request_of : List (List ℕ) → Request
request_of [] = Bad 0
request_of (word ∷ words) = request_in table word words

-- ---- words behind which another is no text

-- the place of a refusal, where the word after this many is no text
abbrev pub cut_place : Request → ℕ → ℕ
cut_place (Build options) count = count
cut_place (Serve local) count = count
cut_place Help count = count
cut_place (Bad at) count = min at count

abbrev pub cut_at : List (List ℕ) → ℕ
cut_at words = cut_place (request_of words) (length words)
