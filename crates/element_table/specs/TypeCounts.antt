-- How many types a unit has: its top-level type and all that are nested in it (JLS 8.5, 9.5). A `package-info` unit counts as one type.
use Rattle.std.specs.Prelude.{ℕ, Bool, true, count_by, is_some}
use Rattle.decl_tree.specs.declared.compilation.UnitText.{UnitText}
use Rattle.decl_elements.specs.Nodes.{Node, OfPackage}
use Rattle.decl_elements.specs.Walk.{places}
use Rattle.decl_elements.specs.Written.{declaration_of}

-- a type, or the package of such a unit
abbrev pub counts : Node → Bool
counts (OfPackage info) = true
counts node = is_some (declaration_of node)

unfoldable pub unit_types : UnitText → ℕ
unit_types u = count_by (λ at. counts at.node) (places u)
