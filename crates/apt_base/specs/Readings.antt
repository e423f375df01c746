-- What a function that reads a form is to return, by the reader of that form.
use Rattle.std.specs.Prelude.{◌≡◌, ℕ, List, Option, Some, None, Result, Ok, Err}
use Rattle.apt_base.specs.declared.fault.FormFault.{FormFault}
use Rattle.apt_base.specs.declared.fault.FormFault.TheVariants.{Bad, Memory}

-- what a function that reads returned is what its reader gives, and what is left, unless memory ran out
abbrev pub Gives : {A : Type 0} → Result A FormFault → Option (A × List ℕ) → List ℕ → Type 0
Gives (Ok x) read left = read ≡ Some (x, left)
Gives (Err Bad) read left = read ≡ None
Gives (Err Memory) read left = Unit {0}

-- the same, of a value that is all that the bytes hold
abbrev pub GivesAll : {A : Type 0} → Result A FormFault → Option A → Type 0
GivesAll (Ok x) read = read ≡ Some x
GivesAll (Err Bad) read = read ≡ None
GivesAll (Err Memory) read = Unit {0}
