-- The walk over a unit: all that stands in it, each with its path, in the order of the paths. First comes what the unit declares, and behind each
-- thing all that it encloses: type parameters, members, parameters, and what the language adds.
use Rattle.std.specs.Prelude.{◌≡◌, ℕ, zero, suc, ◌≤◌, max, length, List, [], ◌∷◌, ◌++◌, map, Contains, Some}
use Rattle.std.specs.List.{AllByRecursion, enumerate_from, flat_map, fold}
use Rattle.std.specs.List.Sorted.{IsStrictlySortedBy}
use Rattle.std.specs.Ordering.{nat_cmp}
use Rattle.std.specs.Cmp.Lexicographic.{slice_cmp}
use Rattle.apt_base.specs.Limits.{max_children}
use Rattle.decl_tree.specs.declared.declaration.TypeDecl.{TypeDecl}
use Rattle.decl_tree.specs.declared.declaration.Member.{Member, out-Member}
use Rattle.decl_tree.specs.declared.declaration.Member.TheOpen.{Member-F, TypeDecl-F}
use Rattle.decl_tree.specs.declared.declaration.Member.TheFolds.{fold-TypeDecl}
use Rattle.decl_tree.specs.declared.compilation.UnitText.{UnitText}
use Rattle.decl_elements.specs.Nodes.{Node, Top, Inside, ValueOf, children, down, root}

-- a path, and what stands there
pub record Place : Type 0 where
  pub path : List ℕ
  pub node : Node

abbrev pub place_of : List ℕ → Node → Place
place_of path node = record { path = path; node = node }

-- ---- one step down

-- a child by its number
abbrev pub child_of : Place → ℕ × Node → Place
child_of at child = place_of (at.path ++ child.0 ∷ []) child.1

-- the children of what stands there, each at its own path
abbrev pub children_of : Place → List Place
children_of at = map (child_of at) (enumerate_from 0 (children at.node))

-- ---- how many steps lead down at most

-- through a member type one more than it has; else to a member, and to a parameter of it
abbrev pub member_steps : Member-F ℕ ℕ → ℕ
member_steps (Member-F.Nested steps) = suc steps
member_steps _ = 2

-- two also where nothing is written: to a method that the language adds, and to its parameter
abbrev pub declaration_steps : TypeDecl-F ℕ ℕ → ℕ
declaration_steps d = fold max 2 d.members

unfoldable pub type_steps : TypeDecl → ℕ
type_steps = fold-TypeDecl ℕ ℕ member_steps declaration_steps

abbrev pub inside_steps : Member-F Member TypeDecl → ℕ
inside_steps (Member-F.Nested d) = type_steps d
inside_steps _ = 1

abbrev pub steps_below : Node → ℕ
steps_below (Top d) = type_steps d
steps_below (Inside kind member) = inside_steps (out-Member member)
steps_below ValueOf = 1
steps_below _ = 0

-- the child lists of what stands there, and of all below it, have at most 65,535 items
abbrev pub HasFewBelow : Node → Type 0
HasFewBelow node = (path : List ℕ) (below : Node) → down path node ≡ Some below → length (children below) ≤ max_children

-- ---- the walk

-- what stands there, and all that stands below it within this many steps
abbrev pub within_steps : ℕ → Place → List Place
within_steps zero at = at ∷ []
within_steps (suc steps) at = at ∷ flat_map (within_steps steps) (children_of at)

-- what stands there, and all that stands below it
unfoldable pub all_below : Place → List Place
all_below at = within_steps (steps_below at.node) at

-- all that stands in a unit
unfoldable pub places : UnitText → List Place
places u = all_below (place_of [] (root u))

-- ---- the law on it

-- these are the places at which something stands, each once, in the order of their paths
pub record ArePlaces (u : UnitText) (list : List Place) : Type 0 where
  pub stand : AllByRecursion (λ at. down at.path (root u) ≡ Some at.node) list
  pub all : (path : List ℕ) (node : Node) → down path (root u) ≡ Some node → Contains list (place_of path node)
  pub ascending : IsStrictlySortedBy (slice_cmp nat_cmp) (map (λ at. at.path) list)
