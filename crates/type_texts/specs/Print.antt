-- The text of a type: canonical names (JLS 6.7), arguments joined by `,` without a space.
use Rattle.std.specs.Prelude.{ℕ, List, [], ◌∷◌, ◌++◌, codes, Option, None, Some}
use Rattle.std.specs.List.{join_with_byte}
use Rattle.apt_base.specs.declared.element.ElementRef.{ElementRef}
use Rattle.element_table.specs.TypeTable.{TypeTable}
use Rattle.type_mirror.specs.declared.mirror.PrimitiveKind.{PrimitiveKind}
use Rattle.type_mirror.specs.declared.mirror.PrimitiveKind.TheVariants as kind
use Rattle.type_mirror.specs.declared.mirror.Mirror.{Mirror}
use Rattle.type_layers.specs.Layers.{Layer, Primitive, Declared, Error, Variable, Array, Unbounded, Extends, Super, Executable, Nothing, Void, Null, Package, by_layers}
use Rattle.type_relations.specs.Elements.{type_name, parameter_name, name_by, canonical_name}

abbrev pub primitive_text : PrimitiveKind → List ℕ
primitive_text kind.Boolean = codes "boolean"
primitive_text kind.Byte = codes "byte"
primitive_text kind.Short = codes "short"
primitive_text kind.Int = codes "int"
primitive_text kind.Long = codes "long"
primitive_text kind.Char = codes "char"
primitive_text kind.Float = codes "float"
primitive_text kind.Double = codes "double"

-- a comma is 44
abbrev pub listed : List (List ℕ) → List ℕ
listed texts = join_with_byte 44 texts

abbrev pub arguments_text : List (List ℕ) → List ℕ
arguments_text [] = []
arguments_text (first ∷ more) = codes "<" ++ (listed (first ∷ more) ++ codes ">")

-- its canonical name; with an enclosing type that one, a dot and the simple name
abbrev pub class_text : TypeTable → ElementRef → Option (List ℕ) → List ℕ
class_text table at None = canonical_name table at
class_text table at (Some enclosing) = enclosing ++ (codes "." ++ name_by table type_name at)

-- by the texts of what it holds
abbrev pub layer_text : TypeTable → Layer (List ℕ) → List ℕ
layer_text table (Primitive kind) = primitive_text kind
layer_text table (Declared at enclosing arguments) = class_text table at enclosing ++ arguments_text arguments
layer_text table (Error text) = text
layer_text table (Variable at) = name_by table parameter_name at
layer_text table (Array item) = item ++ codes "[]"
layer_text table Unbounded = codes "?"
layer_text table (Extends bound) = codes "? extends " ++ bound
layer_text table (Super bound) = codes "? super " ++ bound
layer_text table (Executable variables parameters outcome thrown) = codes "(" ++ (listed parameters ++ (codes ")" ++ outcome))
layer_text table Nothing = codes "none"
layer_text table Void = codes "void"
layer_text table Null = codes "null"
layer_text table (Package name) = name

unfoldable pub text_of : TypeTable → Mirror → List ℕ
text_of table = by_layers (layer_text table)
