-- What a look-up of a type finds at a place: no element, one, or different ones. An element stands in its unit, and the unit in a part of the table.
use Rattle.std.specs.Prelude.{ℕ, Bool, true, false, ◌&&◌, List, [], ◌∷◌, ◌++◌, map, Option, None, Some, if◌then◌else◌}
use Rattle.std.specs.List.{fold, enumerate_from}
use Rattle.std.specs.Str.{bytes_eq}
use Rattle.decl_tree.specs.declared.declaration.TypeDecl.{TypeDecl}
use Rattle.decl_tree.specs.declared.compilation.UnitText.{UnitText}
use Rattle.decl_elements.specs.Nodes.{Node, OfTypeParam, children}
use Rattle.element_table.specs.UnitNames.{simple_name}
use Rattle.element_table.specs.declared.part.Part.{Part}
use Rattle.decl_elements.specs.Walk.{Place}
use Rattle.decl_elements.specs.Written.{declaration_of}
use Rattle.name_resolve.specs.Ways.{node_at}

-- an element of a unit; those that a look-up finds are types and type parameters
pub record Find : Type 0 where
  pub part : Part
  pub unit : UnitText
  pub path : List ℕ

pub data Finds : Type 0 where
  Nothing : Finds
  One : (find : Find) → Finds
  Several : Finds

-- they are the same element: the part adds nothing, as no name is in both parts of a table
abbrev pub same_find : Find → Find → Bool
same_find f g = bytes_eq f.unit.package g.unit.package && bytes_eq (simple_name f.unit.body) (simple_name g.unit.body) && bytes_eq f.path g.path

abbrev pub with_one : Find → Finds → Finds
with_one f Nothing = One f
with_one f (One g) = if same_find f g then One f else Several
with_one f Several = Several

-- all that is found at one place: two different finds are ambiguous (JLS 6.4.1, 8.5)
abbrev pub both : Finds → Finds → Finds
both Nothing other = other
both (One f) other = with_one f other
both Several other = Several

abbrev pub together : List Finds → Finds
together finds = fold both Nothing finds

-- what the first place finds that finds anything
abbrev pub first_of : List Finds → Finds
first_of [] = Nothing
first_of (Nothing ∷ places) = first_of places
first_of (One f ∷ places) = One f
first_of (Several ∷ places) = Several

-- ---- what is declared

abbrev pub has_name : List ℕ → Option TypeDecl → Bool
has_name name None = false
has_name name (Some d) = bytes_eq d.name name

abbrev pub is_type_named : List ℕ → Node → Bool
is_type_named name node = has_name name (declaration_of node)

abbrev pub is_parameter_named : List ℕ → Node → Bool
is_parameter_named name (OfTypeParam p) = bytes_eq p.name name
is_parameter_named name _ = false

abbrev pub one_if : Bool → Find → Finds
one_if true f = One f
one_if false f = Nothing

abbrev pub find_at : Part → UnitText → List ℕ → ℕ → Find
find_at part u path number = record { part = part; unit = u; path = path ++ number ∷ [] }

-- the children of what stands at a path that pass a test
abbrev pub children_where : (Node → Bool) → Part → UnitText → Place → Finds
children_where test part u at =
    together (map (λ child. one_if (test child.1) (find_at part u at.path child.0)) (enumerate_from 0 (children at.node)))

-- the type parameters and the member types of this name that are declared there
unfoldable pub parameters_at : Part → UnitText → List ℕ → Place → Finds
parameters_at part u name at = children_where (is_parameter_named name) part u at

unfoldable pub types_at : Part → UnitText → List ℕ → Place → Finds
types_at part u name at = children_where (is_type_named name) part u at

abbrev pub types_in : Part → UnitText → List ℕ → List ℕ → Option Node → Finds
types_in part u name path None = Nothing
types_in part u name path (Some node) = types_at part u name (record { path = path; node = node })

-- the member types of this name that a type declares
unfoldable pub declared_types : Find → List ℕ → Finds
declared_types f name = types_in f.part f.unit name f.path (node_at f.unit f.path)
