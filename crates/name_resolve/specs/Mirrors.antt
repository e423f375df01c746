-- The type that a type text means, as a mirror (JLS 4.3, 4.5, 6.5.5), and the supertypes of a declaration as mirrors.
use Rattle.std.specs.Prelude.{ℕ, ◌||◌, List, [], ◌∷◌, ◌++◌, map, Option, None, Some, is_some, codes, if◌then◌else◌}
use Rattle.std.specs.List.{join_with_byte}
use Rattle.std.specs.Option.{option_map}
use Rattle.std.specs.Str.{bytes_eq}
use Rattle.apt_base.specs.declared.element.ElementRef.{ElementRef}
use Rattle.decl_tree.specs.declared.type_text.PrimitiveKind.{PrimitiveKind}
use Rattle.decl_tree.specs.declared.type_text.PrimitiveKind.TheVariants as primitive
use Rattle.apt_base.specs.declared.around.Around.{Around}
use Rattle.apt_base.specs.declared.around.Around.TheVariants as around
use Rattle.decl_tree.specs.declared.type_text.TypeText.{TypeText}
use Rattle.decl_tree.specs.declared.type_text.BaseType.{BaseType}
use Rattle.decl_tree.specs.declared.type_text.NamedPart.{NamedPart}
use Rattle.decl_tree.specs.declared.type_text.BaseType.TheOpen.{BaseType-F, NamedPart-F, TypeText-F}
use Rattle.decl_tree.specs.declared.type_text.BaseType.TheFolds.{fold-BaseType, fold-NamedPart, fold-TypeText}
use Rattle.decl_tree.specs.declared.declaration.TypeDecl.{TypeDecl}
use Rattle.element_table.specs.UnitNames.{unit_name}
use Rattle.element_table.specs.TypeTable.{TypeTable}
use Rattle.type_mirror.specs.declared.mirror.PrimitiveKind.TheVariants as kind
use Rattle.type_mirror.specs.declared.mirror.Mirror.{Mirror}
use Rattle.type_mirror.specs.declared.mirror.BaseMirror.{BaseMirror}
use Rattle.type_mirror.specs.declared.mirror.BaseMirror.TheVariants as base
use Rattle.type_mirror.specs.declared.mirror.DeclaredMirror.{roll-DeclaredMirror}
use Rattle.type_mirror.specs.Parts.{plain, wrapped}
use Rattle.name_resolve.specs.Ways.{type_at}
use Rattle.name_resolve.specs.Finds.{Find, Finds, One}
use Rattle.name_resolve.specs.Supertypes.{Supertype, Written, Implied, is_object, superclass_in, interfaces_in}
use Rattle.name_resolve.specs.Meaning.{Scope, Header, tops_of, meaning, qualifier_meaning}

-- ---- texts, spelled without spaces

abbrev pub primitive_text : PrimitiveKind → List ℕ
primitive_text primitive.Boolean = codes "boolean"
primitive_text primitive.Byte = codes "byte"
primitive_text primitive.Short = codes "short"
primitive_text primitive.Int = codes "int"
primitive_text primitive.Long = codes "long"
primitive_text primitive.Char = codes "char"
primitive_text primitive.Float = codes "float"
primitive_text primitive.Double = codes "double"
primitive_text primitive.Void = codes "void"

-- what stands around a base, from the outside in, and the base's text
abbrev pub text_around : List Around → List ℕ → List ℕ
text_around [] text = text
text_around (around.Array ∷ inner) text = text_around inner text ++ codes "[]"
text_around (around.Extends ∷ inner) text = codes "? extends " ++ text_around inner text
text_around (around.Super ∷ inner) text = codes "? super " ++ text_around inner text

-- a type text that was read: its mirror, and its text
pub record Meant : Type 0 where
  pub mirror : Mirror
  pub text : List ℕ

-- one of the names of a class type
pub record MeantPart : Type 0 where
  pub name : List ℕ
  pub arguments : Option (List Mirror)
  pub text : List ℕ

abbrev pub arguments_text : Option (List Meant) → List ℕ
arguments_text None = []
arguments_text (Some list) = codes "<" ++ join_with_byte 44 (map (λ m. m.text) list) ++ codes ">"

-- ---- class types

abbrev pub ref_of : Find → ElementRef
ref_of f = record { unit = unit_name f.unit; path = f.path }

abbrev pub or_none : Option (List Mirror) → List Mirror
or_none None = []
or_none (Some list) = list

abbrev pub class_mirror : ElementRef → Option Mirror → List Mirror → Mirror
class_mirror at enclosing arguments = plain (base.Declared (roll-DeclaredMirror (record { element = at; enclosing = enclosing; arguments = arguments })))

-- what is no type is a type parameter
abbrev pub element_mirror : Option TypeDecl → ElementRef → Option Mirror → List Mirror → Mirror
element_mirror (Some d) at enclosing arguments = class_mirror at enclosing arguments
element_mirror None at enclosing arguments = plain (base.Variable at)

-- a type or a type parameter; without a meaning the text stays
abbrev pub found_mirror : Finds → List ℕ → Option Mirror → List Mirror → Mirror
found_mirror (One f) text enclosing arguments = element_mirror (type_at f.unit f.path) (ref_of f) enclosing arguments
found_mirror _ text enclosing arguments = plain (base.Error text)

-- the look-up of a whole name, and that of names in front of another name
pub record Look : Type 0 where
  pub whole : List (List ℕ) → Finds
  pub front : List (List ℕ) → Finds

abbrev pub look_at : TypeTable → Scope → Look
look_at table scope = record { whole = meaning table scope; front = qualifier_meaning table scope }

-- a class type from one of its parts on, with the names in front of it and their text, which ends in a dot: what the names so far mean encloses the next one where type
-- arguments are written on it or on a name before it
abbrev pub named_mirror : Look → List (List ℕ) → List ℕ → Option Mirror → MeantPart → List MeantPart → Mirror
named_mirror look names text enclosing part [] =
    found_mirror (look.whole (names ++ part.name ∷ [])) (text ++ part.text) enclosing (or_none part.arguments)
named_mirror look names text enclosing part (next ∷ more) =
    let here = found_mirror (look.front (names ++ part.name ∷ [])) (text ++ part.text) enclosing (or_none part.arguments) in
    named_mirror
    look (names ++ part.name ∷ []) (text ++ part.text ++ codes ".") (if is_some enclosing || is_some part.arguments then Some here else None) next more

abbrev pub parts_mirror : Look → List MeantPart → Mirror
parts_mirror look [] = plain (base.Error [])
parts_mirror look (part ∷ parts) = named_mirror look [] [] None part parts

-- ---- all types

abbrev pub primitive_base : PrimitiveKind → BaseMirror
primitive_base primitive.Boolean = base.Primitive kind.Boolean
primitive_base primitive.Byte = base.Primitive kind.Byte
primitive_base primitive.Short = base.Primitive kind.Short
primitive_base primitive.Int = base.Primitive kind.Int
primitive_base primitive.Long = base.Primitive kind.Long
primitive_base primitive.Char = base.Primitive kind.Char
primitive_base primitive.Float = base.Primitive kind.Float
primitive_base primitive.Double = base.Primitive kind.Double
primitive_base primitive.Void = base.Void

abbrev pub base_step : Look → BaseType-F Meant MeantPart Meant → Meant
base_step look (BaseType-F.Primitive kind) = record { mirror = plain (primitive_base kind); text = primitive_text kind }
base_step look (BaseType-F.Named parts) = record { mirror = parts_mirror look parts; text = join_with_byte 46 (map (λ p. p.text) parts) }
base_step look BaseType-F.Wildcard = record { mirror = plain base.Wildcard; text = codes "?" }

abbrev pub part_step : NamedPart-F Meant MeantPart Meant → MeantPart
part_step part = record {
  name = part.name;
  arguments = option_map (map (λ m. m.mirror)) part.arguments;
  text = part.name ++ arguments_text part.arguments;
}

abbrev pub type_step : TypeText-F Meant MeantPart Meant → Meant
type_step text = record { mirror = wrapped text.around text.base.mirror; text = text_around text.around text.base.text }

unfoldable pub meant : Look → TypeText → Meant
meant look = fold-TypeText Meant MeantPart Meant (base_step look) part_step type_step

-- the same of what a text is made of
unfoldable pub base_meant : Look → BaseType → Meant
base_meant look = fold-BaseType Meant MeantPart Meant (base_step look) part_step type_step

unfoldable pub part_meant : Look → NamedPart → MeantPart
part_meant look = fold-NamedPart Meant MeantPart Meant (base_step look) part_step type_step

-- the mirror that a type text means there
unfoldable pub type_meaning : TypeTable → Scope → TypeText → Mirror
type_meaning table scope text = (meant (look_at table scope) text).mirror

-- ---- supertypes

-- the superclass of an enum is `java.lang.Enum` of itself
abbrev pub implied_arguments : Find → List ℕ → List Mirror
implied_arguments f name = if bytes_eq name (codes "java.lang.Enum") then class_mirror (ref_of f) None [] ∷ [] else []

abbrev pub supertype_mirror : TypeTable → Find → Supertype → Mirror
supertype_mirror table f (Written text) = type_meaning table (Header f) text
supertype_mirror table f (Implied name) = found_mirror (tops_of table f.part name) name None (implied_arguments f name)

abbrev pub first_or_nothing : List Mirror → Mirror
first_or_nothing [] = plain base.Nothing
first_or_nothing (first ∷ others) = first

abbrev pub superclass_of : TypeTable → Find → Option TypeDecl → Mirror
superclass_of table f None = plain base.Nothing
superclass_of table f (Some d) = first_or_nothing (map (supertype_mirror table f) (superclass_in (is_object f) d.kind d))

abbrev pub interfaces_of : TypeTable → Find → Option TypeDecl → List Mirror
interfaces_of table f None = []
interfaces_of table f (Some d) = map (supertype_mirror table f) (interfaces_in d.kind d)

unfoldable pub superclass : TypeTable → Find → Mirror
superclass table f = superclass_of table f (type_at f.unit f.path)

unfoldable pub interfaces : TypeTable → Find → List Mirror
interfaces table f = interfaces_of table f (type_at f.unit f.path)
