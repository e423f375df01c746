-- What a file reads as: the one answer that the grammar gives. Each file reads as something, and as nothing else, so that it has a name that definitions above can use.
use Rattle.std.specs.Prelude.{◌≡◌, ℕ, List, Result, Ok, Err}
use Rattle.decl_parser.specs.declared.parsing.Parsed.{Parsed}
use Rattle.decl_parser.specs.declared.parsing.FileFault.{FileFault}
use Rattle.decl_parser.specs.declared.parsing.FileFault.TheVariants as faults
use Rattle.decl_parser.specs.Parsed.{shown_parsed}
use Rattle.file_answers.specs.Flaws.{Bad, TooLarge, Reading, ReadsAs}
use Rattle.file_answers.proofs.EachFile.{each-file}

-- what it reads as
unfoldable pub reading_of : List ℕ → List ℕ → Reading
reading_of path bytes = (each-file path bytes).0

-- a call returned what the file reads as, or memory ran out
abbrev pub Parses : Reading → Result Parsed FileFault → Type 0
Parses reading (Ok parsed) = reading ≡ Ok (shown_parsed parsed)
Parses reading (Err (faults.Bad place)) = reading ≡ Err (Bad place)
Parses reading (Err (faults.TooLarge what)) = reading ≡ Err (TooLarge what)
Parses reading (Err faults.Memory) = Unit {0}

-- ---- the laws

-- each file reads as this
abbrev pub EachReads : Type 0
EachReads = (path bytes : List ℕ) → ReadsAs path bytes (reading_of path bytes)

-- and as nothing else
abbrev pub ReadsOnce : Type 0
ReadsOnce = (path bytes : List ℕ) (reading : Reading) → ReadsAs path bytes reading → reading_of path bytes ≡ reading
