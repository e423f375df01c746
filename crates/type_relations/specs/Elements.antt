-- What a question reads of an element of a table, by what stands there.
use Rattle.std.specs.Prelude.{ℕ, Bool, true, false, not, ◌==◌, List, [], ◌∷◌, ◌++◌, map, length, Option, None, Some, is_some, unwrap_or}
use Rattle.std.specs.List.{range_with_len}
use Rattle.std.specs.Option.{option_map, option_and_then}
use Rattle.apt_base.specs.declared.element.ElementRef.{ElementRef}
use Rattle.decl_tree.specs.declared.member.TypeParam.{TypeParam}
use Rattle.decl_tree.specs.declared.declaration.Member.{Member, out-Member}
use Rattle.decl_tree.specs.declared.declaration.Member.TheOpen.{Member-F}
use Rattle.decl_tree.specs.declared.declaration.TypeDecl.{TypeDecl}
use Rattle.decl_tree.specs.declared.declaration.TypeKind.{TypeKind}
use Rattle.decl_tree.specs.declared.declaration.TypeKind.TheVariants as kind
use Rattle.decl_elements.specs.Nodes.{Node, Top, Inside, OfTypeParam}
use Rattle.decl_elements.specs.Written.{declaration_of}
use Rattle.element_table.specs.TypeTable.{TypeTable}
use Rattle.element_table.specs.TableElements.{node_at, enclosing_at, canonical_at}

-- something stands there
abbrev pub is_there : TypeTable → ElementRef → Bool
is_there table at = is_some (node_at table at)

-- ---- kinds

abbrev pub is_interface_kind : TypeKind → Bool
is_interface_kind kind.Interface = true
is_interface_kind _ = false

abbrev pub declares_interface : Option TypeDecl → Bool
declares_interface None = false
declares_interface (Some d) = is_interface_kind d.kind

-- an interface stands there, and no annotation interface
abbrev pub is_interface : TypeTable → ElementRef → Bool
is_interface table at = declares_interface (option_and_then declaration_of (node_at table at))

-- ---- names; what has none has the empty one

-- the simple name of a type
abbrev pub type_name : Node → Option (List ℕ)
type_name node = option_map (λ d. d.name) (declaration_of node)

-- the name of a type parameter
abbrev pub parameter_name : Node → Option (List ℕ)
parameter_name (OfTypeParam parameter) = Some parameter.name
parameter_name _ = None

abbrev pub name_by : TypeTable → (Node → Option (List ℕ)) → ElementRef → List ℕ
name_by table name at = unwrap_or (option_and_then name (node_at table at)) []

abbrev pub canonical_name : TypeTable → ElementRef → List ℕ
canonical_name table at = unwrap_or (canonical_at table at) []

-- ---- type parameters

-- those that a type, a method or a constructor declares; they stand first among its children
abbrev pub member_parameters : Member-F Member TypeDecl → List TypeParam
member_parameters (Member-F.Field field) = []
member_parameters (Member-F.Method method) = method.parameters
member_parameters (Member-F.Constructor constructor) = constructor.parameters
member_parameters (Member-F.Constant constant) = []
member_parameters (Member-F.Nested d) = d.parameters

abbrev pub declared_parameters : Node → List TypeParam
declared_parameters (Top d) = d.parameters
declared_parameters (Inside kind member) = member_parameters (out-Member member)
declared_parameters _ = []

abbrev pub parameters_of : Option Node → List TypeParam
parameters_of None = []
parameters_of (Some node) = declared_parameters node

-- the child of this number
abbrev pub child : ElementRef → ℕ → ElementRef
child at number = record { unit = at.unit; path = at.path ++ number ∷ [] }

-- this many children, the first ones
abbrev pub first_children : ElementRef → ℕ → List ElementRef
first_children at count = map (child at) (range_with_len 0 count)

-- its type parameters as elements
unfoldable pub type_parameters : TypeTable → ElementRef → List ElementRef
type_parameters table at = first_children at (length (parameters_of (node_at table at)))

-- whether there are any
abbrev pub has_type_parameters : TypeTable → ElementRef → Bool
has_type_parameters table at = not (length (parameters_of (node_at table at)) == 0)

-- ---- what is around it

-- the element around it, or itself where there is none
abbrev pub around_of : TypeTable → ElementRef → ElementRef
around_of table at = unwrap_or (enclosing_at table at) at
