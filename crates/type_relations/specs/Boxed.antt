-- Boxing and unboxing (JLS 5.1.7, 5.1.8): the pairs of the eight primitive types with their boxes.
use Rattle.std.specs.Prelude.{ℕ, Bool, List, [], ◌∷◌, find, codes, Option, None, Some}
use Rattle.std.specs.Option.{option_map}
use Rattle.element_table.specs.TypeTable.{TypeTable}
use Rattle.type_mirror.specs.declared.mirror.PrimitiveKind.{PrimitiveKind}
use Rattle.type_mirror.specs.declared.mirror.PrimitiveKind.TheVariants as kind
use Rattle.type_mirror.specs.declared.mirror.Mirror.{Mirror}
use Rattle.type_layers.specs.Layers.{Layer, Primitive, layer, mirror_of}
use Rattle.type_layers.specs.Same.{same}
use Rattle.type_relations.specs.Named.{type_named}

abbrev pub box_name : PrimitiveKind → List ℕ
box_name kind.Boolean = codes "java.lang.Boolean"
box_name kind.Byte = codes "java.lang.Byte"
box_name kind.Short = codes "java.lang.Short"
box_name kind.Int = codes "java.lang.Integer"
box_name kind.Long = codes "java.lang.Long"
box_name kind.Char = codes "java.lang.Character"
box_name kind.Float = codes "java.lang.Float"
box_name kind.Double = codes "java.lang.Double"

-- the error type with that text where the table doesn't have it
abbrev pub box_of : TypeTable → PrimitiveKind → Mirror
box_of table kind = type_named table (box_name kind)

abbrev pub all_kinds : List PrimitiveKind
all_kinds = kind.Boolean ∷ kind.Byte ∷ kind.Short ∷ kind.Int ∷ kind.Long ∷ kind.Char ∷ kind.Float ∷ kind.Double ∷ []

abbrev pub primitive_in : Layer Mirror → Option PrimitiveKind
primitive_in (Primitive kind) = Some kind
primitive_in _ = None

abbrev pub primitive_of : Mirror → Option PrimitiveKind
primitive_of m = primitive_in (layer m)

-- of a primitive type; None for all else
unfoldable pub boxed : TypeTable → Mirror → Option Mirror
boxed table m = option_map (box_of table) (primitive_of m)

-- whether a type is the box of this one
abbrev pub is_box : TypeTable → Mirror → PrimitiveKind → Bool
is_box table m kind = same (box_of table kind) m

-- the primitive type of which a type is the box
abbrev pub boxed_kind : TypeTable → Mirror → Option PrimitiveKind
boxed_kind table m = find (is_box table m) all_kinds

-- of one of the eight boxes; None for all else
unfoldable pub unboxed : TypeTable → Mirror → Option Mirror
unboxed table m = option_map (λ kind. mirror_of (Primitive kind)) (boxed_kind table m)
