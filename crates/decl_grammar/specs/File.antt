-- Phrases of a form: which symbols are one, which begin one, where the first fault is, and where too much is open first.
use Rattle.std.specs.Prelude.{◌≡◌, ℕ, ◌<◌, ◌≤◌, List, [], ◌∷◌, ◌++◌, length, Result, Ok, Err}
use Rattle.decl_grammar.specs.declared.symbol.Symbol.{Symbol}
use Rattle.decl_grammar.specs.declared.fault.ParseFault.{ParseFault}
use Rattle.decl_grammar.specs.declared.fault.ParseFault.TheVariants as faults
use Rattle.decl_grammar.specs.Reading.{Outcome, done, fault, ◌>>=◌}
use Rattle.decl_grammar.specs.Form.{Form, Is, Begins}
use Rattle.decl_grammar.specs.Rule.{WholeAt, BegunAt, reads}

-- these symbols are a phrase of the form, and this is what it means
abbrev pub IsPhrase : {A : Type 0} → Form A → List Symbol → A → Type 0
IsPhrase f ts x = (height : ℕ) × Is (WholeAt height) f ts x

-- these symbols begin a phrase of the form, and this many forms that count are begun around the end
abbrev pub BeginsPhrase : {A : Type 0} → Form A → List Symbol → ℕ → Type 0
BeginsPhrase f ts n = (height : ℕ) × Begins (WholeAt height) (BegunAt height) f ts n

-- at no symbol of these more is open than is allowed
abbrev pub IsShallow : {A : Type 0} → Form A → ℕ → List Symbol → Type 0
IsShallow f room ts = (us vs : List Symbol) (n : ℕ) → ts ≡ us ++ vs → BeginsPhrase f us n → n ≤ room

-- symbols have at most one meaning as this form
abbrev pub HasOneReading : {A : Type 0} → Form A → Type 0
HasOneReading {A} f = (ts : List Symbol) (x y : A) → IsPhrase f ts x → IsPhrase f ts y → x ≡ y

-- each front of a phrase begins one
abbrev pub FrontsBegin : {A : Type 0} → Form A → Type 0
FrontsBegin {A} f = (us vs : List Symbol) (x : A) → IsPhrase f (us ++ vs) x → (n : ℕ) × BeginsPhrase f us n

-- each front of what begins a phrase begins one
abbrev pub FrontsOfBegun : {A : Type 0} → Form A → Type 0
FrontsOfBegun f = (us vs : List Symbol) (n : ℕ) → BeginsPhrase f (us ++ vs) n → (m : ℕ) × BeginsPhrase f us m

-- The first symbol of at is the first one up to which the symbols begin no phrase, or at is empty and all symbols begin one.
pub record IsFirstFault {A : Type 0} (f : Form A) (room : ℕ) (ts us at : List Symbol) : Type 0 where
  pub parts : ts ≡ us ++ at
  pub begins : (n : ℕ) × BeginsPhrase f us n
  pub wrong : (t : Symbol) (vs : List Symbol) (n : ℕ) → at ≡ t ∷ vs → BeginsPhrase f (us ++ t ∷ []) n → ⊥
  pub none : (x : A) → IsPhrase f ts x → ⊥
  pub shallow : IsShallow f room us

-- t is the first symbol at which more is open than is allowed
pub record IsFirstDeep {A : Type 0} (f : Form A) (room : ℕ) (ts us : List Symbol) (t : Symbol) (vs : List Symbol) : Type 0 where
  pub parts : ts ≡ us ++ t ∷ vs
  pub open_there : (n : ℕ) × (room < n) × BeginsPhrase f (us ++ t ∷ []) n
  pub shallow : IsShallow f room us

-- all symbols are read
abbrev pub ended : {A : Type 0} → A → List Symbol → Outcome A
ended x [] = done x []
ended x (t ∷ ts) = fault (t ∷ ts)

abbrev pub phrase_at : {A : Type 0} → ℕ → Form A → List Symbol → Outcome A
phrase_at room f ts = reads room f ts >>= ended

-- ---- what a parser returns, seen by view

-- what is read is a phrase, and means this
abbrev pub Found : {A X : Type 0} → Form A → (X → A) → List Symbol → Result X ParseFault → Type 0
Found f view ts (Ok x) = IsPhrase f ts (view x)
Found f view ts (Err e) = Unit {0}

-- a phrase with this meaning is read, unless it is too deep or memory ran out
abbrev pub Missed : {A X : Type 0} → (X → A) → A → Result X ParseFault → Type 0
Missed view x (Ok y) = view y ≡ x
Missed view x (Err (faults.Bad place)) = ⊥
Missed view x (Err (faults.Deep place)) = Unit {0}
Missed view x (Err faults.Memory) = Unit {0}

abbrev pub BadAt : {A X : Type 0} → Form A → ℕ → List Symbol → Result X ParseFault → Type 0
BadAt f limit ts (Err (faults.Bad place)) = (us : List Symbol) × (at : List Symbol) × (place ≡ length us) × IsFirstFault f limit ts us at
BadAt f limit ts _ = Unit {0}

abbrev pub DeepAt : {A X : Type 0} → Form A → ℕ → List Symbol → Result X ParseFault → Type 0
DeepAt f limit ts (Err (faults.Deep place)) = (us : List Symbol) × (t : Symbol) × (vs : List Symbol) × (place ≡ length us) × IsFirstDeep f limit ts us t vs
DeepAt f limit ts _ = Unit {0}
