-- The types of one value of questions: what gets a number, and what a number stands for. All elements that a type names are there, in itself and in its parts.
use Rattle.std.specs.Prelude.{◌≡◌, ℕ, Bool, true, false, Result, Ok, Err}
use Rattle.type_mirror.specs.declared.mirror.Mirror.{Mirror}
use Rattle.type_memory.specs.Known.{Known, IsKnown, type_at}
use Rattle.type_numbers.specs.Numbers.{Stands}
use Rattle.type_queries.specs.Questions.{contains_question, subtype_question}
use Rattle.type_queries.specs.Verdicts.{Verdict, are_there}
use Rattle.type_queries.specs.declared.fault.QueryFault.{QueryFault}
use Rattle.type_queries.specs.declared.fault.QueryFault.TheVariants as fault

-- a number is that of a type all elements of which are there
pub record IsThere (held : Known) (number : ℕ) : Type 0 where
  pub known : IsKnown held number
  pub there : are_there held.table (type_at held number) ≡ true

-- what adding a type gives: its number, or that an element is not there; out of memory may come in place of both
abbrev pub IsAdded : Result ℕ QueryFault → Known → Known → Mirror → Type 0
IsAdded (Ok number) old new m = Stands new.types number m × (are_there old.table m ≡ true)
IsAdded (Err fault.NoSuch) old new m = are_there old.table m ≡ false
IsAdded (Err fault.WrongKind) old new m = ⊥
IsAdded (Err fault.TooDeep) old new m = ⊥
IsAdded (Err fault.Memory) old new m = Unit {0}

-- what a question by numbers comes to: that by the types
abbrev pub subtype_asked : Known → ℕ → ℕ → Verdict Bool
subtype_asked held one other = subtype_question held.table (type_at held one) (type_at held other)

abbrev pub contains_asked : Known → ℕ → ℕ → Verdict Bool
contains_asked held one other = contains_question held.table (type_at held one) (type_at held other)
