-- What a file may read as: its units with the lines of their elements, or why it gives none.
use Rattle.std.specs.Prelude.{ℕ, List, Result, Ok, Err}
use Rattle.apt_base.specs.declared.kinds.What.{What}
use Rattle.decl_limits.specs.Units.{Declared}
use Rattle.decl_parser.specs.declared.parsing.Parsed.{Parsed}
use Rattle.decl_parser.specs.declared.parsing.FileFault.{FileFault}
use Rattle.decl_parser.specs.declared.parsing.FileFault.TheVariants as faults
use Rattle.decl_parser.specs.Parsed.{AnswersFile}

-- why a file gives no units
pub data Flaw : Type 0 where
  -- no file begins so, from this offset on
  Bad : (place : ℕ) → Flaw
  -- it passes this limit first
  TooLarge : (what : What) → Flaw

-- the units of a file with the lines of their elements, or why there are none
abbrev pub Reading : Type 0
Reading = Result Declared Flaw

-- units with their lines, as a call returns them
abbrev pub parsed_of : Declared → Parsed
parsed_of declared = record { units = declared.0; lines = declared.1 }

-- an answer of which this holds is this reading
abbrev pub Comes : (Result Parsed FileFault → Type 0) → Reading → Type 0
Comes P (Ok declared) = P (Ok (parsed_of declared))
Comes P (Err (Bad place)) = P (Err (faults.Bad place))
Comes P (Err (TooLarge what)) = P (Err (faults.TooLarge what))

-- a file at this path with these bytes reads as this
abbrev pub ReadsAs : List ℕ → List ℕ → Reading → Type 0
ReadsAs path bytes reading = Comes (AnswersFile path bytes) reading

-- each file reads as something
abbrev pub EachAnswered : Type 0
EachAnswered = (path bytes : List ℕ) → (reading : Reading) × ReadsAs path bytes reading
