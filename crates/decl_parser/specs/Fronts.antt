-- What a file comes to by its first symbols alone.
use Rattle.std.specs.Prelude.{◌≡◌, ℕ, Bool, List, ◌++◌, Result, Err}
use Rattle.decl_grammar.specs.declared.symbol.Symbol.{Symbol}
use Rattle.decl_parser.specs.declared.parsing.Parsed.{Parsed}
use Rattle.decl_parser.specs.declared.parsing.FileFault.{FileFault}
use Rattle.decl_parser.specs.declared.parsing.FileFault.TheVariants as faults
use Rattle.decl_parser.specs.Parsed.{AnswersOrdinary, AnswersInfo, AnswersSymbols}

-- whatever symbols stand behind these, all together have this fault
abbrev pub Settles : (List Symbol → Result Parsed FileFault → Type 0) → List Symbol → FileFault → Type 0
Settles answers us fault = (vs : List Symbol) → answers (us ++ vs) (Err fault)

abbrev pub SettlesOrdinary : ℕ → List Symbol → FileFault → Type 0
SettlesOrdinary end us fault = Settles (AnswersOrdinary end) us fault

abbrev pub SettlesInfo : ℕ → List Symbol → FileFault → Type 0
SettlesInfo end us fault = Settles (AnswersInfo end) us fault

abbrev pub SettlesSymbols : Bool → ℕ → List Symbol → FileFault → Type 0
SettlesSymbols info end us fault = Settles (AnswersSymbols info end) us fault

-- this is the fault, and no place, which symbols that are still to come may change
abbrev pub IsSettled : FileFault → FileFault → Type 0
IsSettled fault found = (found ≡ fault) × ((place : ℕ) → fault ≡ faults.Bad place → ⊥)
