-- What a walk over the fields of a declaration says, step by step.
use Rattle.std.specs.Prelude.{◌≡◌, ℕ, ◌<◌, ◌-◌, Bool, true, false, List, length, take, Option, Some, None, Result, Ok, Err, ◌⊎◌}
use Rattle.decl_grammar.specs.declared.symbol.Symbol.{Symbol}
use Rattle.decl_grammar.specs.Reading.{Outcome, done}
use Rattle.decl_grammar.specs.Form.{assigned, between, colons, ends}
use Rattle.decl_turns.specs.declared.states.Before.{Before}
use Rattle.decl_turns.specs.declared.states.Before.TheVariants as before
use Rattle.decl_turns.specs.declared.states.Place.TheVariants as places
use Rattle.decl_turns.specs.declared.states.Leave.TheVariants as leaves
use Rattle.decl_turns.specs.declared.states.Next.{Next}
use Rattle.decl_turns.specs.States.{after_of}
use Rattle.decl_turns.specs.Turns.{next_at}
use Rattle.decl_crossings.specs.declared.spots.Spot.{Spot}
use Rattle.decl_crossings.specs.declared.spots.Spot.TheVariants as spot
use Rattle.decl_crossings.specs.declared.spots.Step.{Step}
use Rattle.decl_crossings.specs.declared.spots.Step.TheVariants as steps
use Rattle.decl_crossings.specs.Crossings.{FieldCrosses, RestCrosses}
use Rattle.std.specs.Borrow.{Bor}

-- what a test says
abbrev pub IfTold : Type 0 → Bool → Type 0
IfTold p true = p
IfTold p false = p → ⊥

-- the same, unless memory ran out
abbrev pub Tells : {E : Type 0} → Type 0 → Result Bool E → Type 0
Tells p (Ok b) = IfTold p b
Tells p (Err e) = Unit {0}

-- how an initialiser goes on behind this
abbrev pub next_within : Before → List Symbol → Next
next_within before ts = next_at places.Assigned leaves.Anywhere before ts

-- what ends an initialiser
abbrev pub value_ends : List ℕ
value_ends = ends assigned

-- these symbols were read up to here, or nothing is read
abbrev pub Found : Outcome (Unit {0}) → Option (Bor (List Symbol)) → Type 0
Found read (Some rest) = read ≡ done tt rest.now
Found read None = (rest : List Symbol) → read ≡ done tt rest → ⊥

abbrev pub Passes : {E : Type 0} → Outcome (Unit {0}) → Result (Option (Bor (List Symbol))) E → Type 0
Passes read (Ok o) = Found read o
Passes read (Err e) = Unit {0}

-- this holds of what was found
abbrev pub WhereSome : {A E : Type 0} → Result (Option A) E → (A → Type 0) → Type 0
WhereSome (Ok (Some x)) p = p x
WhereSome (Ok None) p = Unit {0}
WhereSome (Err e) p = Unit {0}

-- more fields than this many begin from this spot on
abbrev pub CrossesAt : Spot → ℕ → List Symbol → Type 0
CrossesAt spot.Field n ts = FieldCrosses n ts
CrossesAt (spot.Row b) n ts = RestCrosses n (after_of b) ts

abbrev pub Alike : Type 0 → Type 0 → Type 0
Alike p q = (p → q) × (q → p)

-- What a step says of p, where more fields than this many may not begin: that it holds, that it does not, or what it is behind the step. Fewer symbols are left.
abbrev pub StepTo : ℕ → Type 0 → List Symbol → Step → Type 0
StepTo n p ts steps.Full = p
StepTo n p ts steps.Over = p → ⊥
StepTo n p ts (steps.On m s us) = Alike p (CrossesAt s m us.now) × (length us.now < length ts)
StepTo n p ts (steps.Type of us) = Alike p (RestCrosses n between of.now ⊎ RestCrosses n colons us.now) × ((length of.now < length ts) × (length us.now < length ts))

abbrev pub StepsTo : {E : Type 0} → ℕ → Type 0 → List Symbol → Result Step E → Type 0
StepsTo n p ts (Ok s) = StepTo n p ts s
StepsTo n p ts (Err e) = Unit {0}

-- the symbols within a type, of which these stand behind it
abbrev pub within_type : List Symbol → List Symbol → List Symbol
within_type ts rest = take (length ts - length rest) ts

-- A step over a type: into it and behind it, or only behind it, where too few fields begin within it.
abbrev pub TypeStep : ℕ → List Symbol → List Symbol → Step → Type 0
TypeStep n ts rest steps.Full = ⊥
TypeStep n ts rest steps.Over = ⊥
TypeStep n ts rest (steps.On m s us) = (m ≡ n) × (s ≡ spot.Row before.Colons) × (us.now ≡ rest) × (RestCrosses n between (within_type ts rest) → ⊥)
TypeStep n ts rest (steps.Type of us) = (of.now ≡ within_type ts rest) × (us.now ≡ rest)
