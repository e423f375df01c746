-- Steps of a walk over fields with the symbols that they leave.
use Rattle.std.specs.Prelude.{◌≡◌, ℕ, ◌<◌, List, length, Result, Ok, Err, ◌⊎◌}
use Rattle.decl_grammar.specs.declared.symbol.Symbol.{Symbol}
use Rattle.decl_grammar.specs.Form.{between, colons}
use Rattle.decl_crossings.specs.declared.spots.Kind.{Kind}
use Rattle.decl_crossings.specs.declared.spots.Kind.TheVariants as kinds
use Rattle.decl_crossings.specs.declared.spots.Move.{Move}
use Rattle.decl_crossings.specs.declared.spots.Step.{Step}
use Rattle.decl_crossings.specs.declared.spots.Step.TheVariants as steps
use Rattle.decl_crossings.specs.Crossings.{RestCrosses}
use Rattle.decl_crossings.specs.Steps.{Alike, CrossesAt}

-- this is that step
abbrev pub Moved : Step → Move → Type 0
Moved steps.Full m = m.kind ≡ kinds.Full
Moved steps.Over m = m.kind ≡ kinds.Over
Moved (steps.On n s us) m = (m.kind ≡ kinds.On n s) × (m.rest.now ≡ us.now)
Moved (steps.Type of us) m = (m.kind ≡ kinds.Type) × (m.within.now ≡ of.now) × (m.rest.now ≡ us.now)

-- what it says, as `StepTo` has it
abbrev pub KindTo : ℕ → Type 0 → List Symbol → Kind → List Symbol → List Symbol → Type 0
KindTo n p ts kinds.Full within rest = p
KindTo n p ts kinds.Over within rest = p → ⊥
KindTo n p ts (kinds.On m s) within rest = Alike p (CrossesAt s m rest) × (length rest < length ts)
KindTo n p ts kinds.Type within rest = Alike p (RestCrosses n between within ⊎ RestCrosses n colons rest) × ((length within < length ts) × (length rest < length ts))

abbrev pub MovesTo : {E : Type 0} → ℕ → Type 0 → List Symbol → Result Move E → Type 0
MovesTo n p ts (Ok m) = KindTo n p ts m.kind m.within.now m.rest.now
MovesTo n p ts (Err e) = Unit {0}
