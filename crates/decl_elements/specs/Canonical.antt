-- The canonical names of types (JLS 6.7): a member type has the name of the type around it, a dot and its simple name.
use Rattle.std.specs.Prelude.{ℕ, List, [], ◌∷◌, ◌++◌, slice_get, Option, Some, None}
use Rattle.std.specs.Option.{option_and_then}
use Rattle.decl_tree.specs.declared.declaration.Member.{Member, out-Member}
use Rattle.decl_tree.specs.declared.declaration.Member.TheOpen.{Member-F}
use Rattle.decl_tree.specs.declared.declaration.TypeDecl.{TypeDecl}
use Rattle.decl_elements.specs.Nodes.{Node, OfPackage, Top, Inside, OfTypeParam, OfParam, DefaultConstructor, Values, ValueOf, ValueOfName, children}

abbrev pub nested_name : Member-F Member TypeDecl → Option (List ℕ)
nested_name (Member-F.Nested d) = Some d.name
nested_name _ = None

-- the simple name of a member type
unfoldable pub member_type_name : Node → Option (List ℕ)
member_type_name (Inside kind member) = nested_name (out-Member member)
member_type_name _ = None

-- the name of what stands at the end of this path below a type or a package of this name, where it is a type; a dot is 46
abbrev pub canonical_down : List ℕ → List ℕ → Node → Option (List ℕ)
canonical_down name [] node = Some name
canonical_down name (at ∷ path) node =
    option_and_then (λ child. option_and_then (λ simple. canonical_down (name ++ 46 ∷ simple) path child) (member_type_name child)) (slice_get (children node) at)
