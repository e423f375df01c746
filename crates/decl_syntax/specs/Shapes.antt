-- The shapes of legal units: each has one, no other legal unit has it, and it goes on to no other shape.
use Rattle.std.specs.Prelude.{◌≡◌, ℕ, true, List, [], ◌++◌}
use Rattle.decl_syntax.specs.Shape.{unit_form}
use Rattle.decl_tree.specs.Legal.{is_legal}
use Rattle.decl_tree.specs.declared.compilation.UnitText.{UnitText}

-- the bytes are the shape of the unit, which is legal
abbrev pub IsShapeOf : UnitText → List ℕ → Type 0
IsShapeOf unit bytes = (is_legal unit ≡ true) × (bytes ≡ unit_form unit)

-- the bytes are the shape of no legal unit
abbrev pub IsNoShape : List ℕ → Type 0
IsNoShape bytes = (unit : UnitText) → IsShapeOf unit bytes → ⊥

-- a legal unit whose spelling begins with that of this one is this one, and nothing follows
abbrev pub IsOnlySpelled : UnitText → Type 0
IsOnlySpelled unit = (other : UnitText) (rest : List ℕ) → is_legal other ≡ true → unit_form other ≡ unit_form unit ++ rest → (other ≡ unit) × (rest ≡ [])
