-- What the words of a call ask for. Which words the program takes is what the parser of command lines says of its one option.
use Rattle.std.specs.Prelude.{◌≡◌, ◌≢◌, ◌⊎◌, List, [], Option, None, Some, IsSomeAnd, option_map, codes, true}
use Rattle.std.specs.Borrow.{Bor}
use Rattle.clap.specs.Words.{App, Rule, Shape, Text, first_of, matches_of, new_app, new_rule, with_rule}
use Rattle.clap.specs.Simple.{on_top}
use Rattle.clap.specs.Kinds.{Kinds}
use Rattle.clap.specs.Faults.{fault_of}
use Rattle.clap.specs.declared.builder.action.ArgAction.TheVariants.{Set}
use Rattle.vector_tables.specs.declared.words.Task.{Task}
use Rattle.vector_tables.specs.declared.words.Task.TheVariants.{Each, One, Refused}
use Rattle.vector_tables.specs.Answers.{name_of, HasNoTable}

-- the option `--table`, which takes a word
abbrev pub table_option : Rule
table_option = record (new_rule (codes "table")) { long = Some (codes "table"); action = Some Set }

-- no flag asks for help
abbrev pub without_help : Shape → Shape
without_help shape = record shape { disable_help_flag = true }

-- the command of the program
abbrev pub command : App
command = with_rule (on_top without_help (new_app (codes "apt_vectors"))) table_option

-- what is wrong with the words of a call, the program's own name first; nothing where the command takes them
unfoldable pub faults_of : List Text → Kinds
faults_of words = fault_of command words

-- the word that they give for the option, where it is there
unfoldable pub table_word : List Text → Option Text
table_word words = first_of (codes "table") (matches_of command words)

-- a word that was read is this one
abbrev pub IsTableWord : List Text → Option (Bor Text) → Type 0
IsTableWord words word = option_map (λ (w : Bor Text). w.now) word ≡ table_word words

-- the task for the name of a table
abbrev pub IsNamed : Text → Task → Type 0
IsNamed name Each = ⊥
IsNamed name (One table) = name ≡ name_of table
IsNamed name Refused = HasNoTable name

-- the words ask for this: each table without the option, and the table that the option names; others are refused
abbrev pub AsksFor : List Text → Task → Type 0
AsksFor words Each = (faults_of words ≡ []) × (table_word words ≡ None)
AsksFor words (One table) = (faults_of words ≡ []) × (table_word words ≡ Some (name_of table))
AsksFor words Refused = (faults_of words ≢ []) ⊎ IsSomeAnd (table_word words) HasNoTable
