-- What is said of some front of symbols, and what a test over them answers.
use Rattle.std.specs.Prelude.{◌≡◌, Bool, true, false, List, ◌++◌, Option, Some, None, Result, Ok, Err}
use Rattle.decl_grammar.specs.declared.symbol.Symbol.{Symbol}
use Rattle.decl_grammar.specs.declared.fault.ReadFault.{ReadFault}
use Rattle.decl_grammar.specs.declared.fault.ReadFault.TheVariants as faults
use Rattle.decl_grammar.specs.Form.{Form}
use Rattle.decl_grammar.specs.File.{IsPhrase}

-- this holds of some front of the symbols
abbrev pub SomeFront : (List Symbol → Type 0) → List Symbol → Type 0
SomeFront p ts = (us : List Symbol) × (vs : List Symbol) × (ts ≡ us ++ vs) × p us

-- no front of the symbols is this form
abbrev pub NoneWhole : {A : Type 0} → Form A → List Symbol → Type 0
NoneWhole {A} f ts = (us vs : List Symbol) (x : A) → ts ≡ us ++ vs → IsPhrase f us x → ⊥

-- some front of the symbols is this form and means this, and these symbols stand behind it
abbrev pub Passes : {A : Type 0} → Form A → List Symbol → A → List Symbol → Type 0
Passes f ts x rest = (us : List Symbol) × (ts ≡ us ++ rest) × IsPhrase f us x

-- what a test says, unless memory ran out
abbrev pub Tells : {E : Type 0} → Type 0 → Result Bool E → Type 0
Tells p (Ok true) = p
Tells p (Ok false) = p → ⊥
Tells p (Err e) = Unit {0}

-- what was read, or none where a fault stands or too much is open; not where memory ran out
abbrev pub ReadOrNone : {T : Type 0} → Result T ReadFault → Option T → Type 0
ReadOrNone (Ok value) found = found ≡ Some value
ReadOrNone (Err faults.Memory) found = ⊥
ReadOrNone (Err (faults.Bad n)) found = found ≡ None
ReadOrNone (Err (faults.Deep n)) found = found ≡ None
