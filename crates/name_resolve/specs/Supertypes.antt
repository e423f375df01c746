-- The direct supertypes that a declaration names or implies (JLS 8.1.4, 8.1.5, 8.9, 9.1.3, 9.6).
use Rattle.std.specs.Prelude.{ℕ, Bool, ◌&&◌, List, [], ◌∷◌, ◌++◌, map, Option, None, Some, codes, if◌then◌else◌}
use Rattle.std.specs.Str.{bytes_eq}
use Rattle.apt_base.specs.declared.around.Around.{Around}
use Rattle.decl_tree.specs.declared.type_text.TypeText.{TypeText, out-TypeText}
use Rattle.decl_tree.specs.declared.type_text.NamedPart.{NamedPart, out-NamedPart}
use Rattle.decl_tree.specs.declared.type_text.BaseType.{BaseType, out-BaseType}
use Rattle.decl_tree.specs.declared.type_text.BaseType.TheOpen.{BaseType-F}
use Rattle.decl_tree.specs.declared.declaration.TypeKind.{TypeKind}
use Rattle.decl_tree.specs.declared.declaration.TypeKind.TheVariants as kind
use Rattle.decl_tree.specs.declared.declaration.TypeDecl.{TypeDecl}
use Rattle.element_table.specs.UnitNames.{simple_name}
use Rattle.name_resolve.specs.Ways.{type_at}
use Rattle.name_resolve.specs.Finds.{Find}

-- a supertype as it is written, or the name of the implied one
pub data Supertype : Type 0 where
  Written : (text : TypeText) → Supertype
  Implied : (name : List ℕ) → Supertype

-- `java.lang.Object` has no superclass
abbrev pub is_object : Find → Bool
is_object f = bytes_eq f.unit.package (codes "java.lang") && bytes_eq (simple_name f.unit.body) (codes "Object") && bytes_eq f.path []

abbrev pub written_or_object : Option TypeText → List Supertype
written_or_object None = Implied (codes "java.lang.Object") ∷ []
written_or_object (Some text) = Written text ∷ []

-- none or one, by whether the class is `java.lang.Object`
abbrev pub superclass_in : Bool → TypeKind → TypeDecl → List Supertype
superclass_in of_object kind.Class d = if of_object then [] else written_or_object d.superclass
superclass_in of_object kind.Enum d = Implied (codes "java.lang.Enum") ∷ []
superclass_in of_object kind.AnnotationType d = []
superclass_in of_object kind.Interface d = []

abbrev pub interfaces_in : TypeKind → TypeDecl → List Supertype
interfaces_in kind.Class d = map Written d.interfaces
interfaces_in kind.Enum d = map Written d.interfaces
interfaces_in kind.AnnotationType d = Implied (codes "java.lang.annotation.Annotation") ∷ []
interfaces_in kind.Interface d = map Written d.interfaces

abbrev pub supertypes_in : Bool → Option TypeDecl → List Supertype
supertypes_in of_object None = []
supertypes_in of_object (Some d) = superclass_in of_object d.kind d ++ interfaces_in d.kind d

-- the superclass before the interfaces; what is no type has none
unfoldable pub supertypes : Find → List Supertype
supertypes f = supertypes_in (is_object f) (type_at f.unit f.path)

-- the superclass alone, and the interfaces alone
abbrev pub superclass_if : Bool → Option TypeDecl → List Supertype
superclass_if of_object None = []
superclass_if of_object (Some d) = superclass_in of_object d.kind d

unfoldable pub superclass_at : Find → List Supertype
superclass_at f = superclass_if (is_object f) (type_at f.unit f.path)

abbrev pub interfaces_if : Option TypeDecl → List Supertype
interfaces_if None = []
interfaces_if (Some d) = interfaces_in d.kind d

unfoldable pub interfaces_at : Find → List Supertype
interfaces_at f = interfaces_if (type_at f.unit f.path)

-- ---- the names of a class type

abbrev pub part_name : NamedPart → List ℕ
part_name part = (out-NamedPart part).name

abbrev pub base_names : BaseType-F BaseType NamedPart TypeText → List (List ℕ)
base_names (BaseType-F.Named parts) = map part_name parts
base_names _ = []

-- no names, unless nothing stands around the base
abbrev pub bare : List Around → List (List ℕ) → List (List ℕ)
bare [] names = names
bare (first ∷ more) names = []

-- the names of a class type that dots join
unfoldable pub names_in : TypeText → List (List ℕ)
names_in text = bare (out-TypeText text).around (base_names (out-BaseType (out-TypeText text).base))
