-- Which children are member types of a name, or type parameters.
use Rattle.std.specs.Prelude.{ℕ, Bool, true, false, List, Option, None, Some, slice_get}
use Rattle.decl_elements.specs.Nodes.{Node, OfTypeParam, children}
use Rattle.name_resolve.specs.Ways.{node_at}
use Rattle.name_resolve.specs.Finds.{Find, Finds, Nothing, find_at, one_if, is_type_named}

abbrev pub child_type_of : Find → List ℕ → ℕ → Option Node → Finds
child_type_of f name number None = Nothing
child_type_of f name number (Some child) = one_if (is_type_named name child) (find_at f.part f.unit f.path number)

abbrev pub child_type_in : Find → List ℕ → ℕ → Option Node → Finds
child_type_in f name number None = Nothing
child_type_in f name number (Some node) = child_type_of f name number (slice_get (children node) number)

-- the child with this number of what stands at a find
unfoldable pub child_type : Find → List ℕ → ℕ → Finds
child_type f name number = child_type_in f name number (node_at f.unit f.path)

abbrev pub is_parameter : Node → Bool
is_parameter (OfTypeParam p) = true
is_parameter _ = false
