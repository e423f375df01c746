-- The numbers by which the small kinds are spelled.
use Rattle.std.specs.Prelude.{ℕ, ◌==◌, Option, Some, None, if◌then◌else◌}
use Rattle.decl_tree.specs.declared.type_text.PrimitiveKind.{PrimitiveKind}
use Rattle.decl_tree.specs.declared.type_text.PrimitiveKind.TheVariants as primitive
use Rattle.decl_tree.specs.declared.declaration.TypeKind.{TypeKind}
use Rattle.decl_tree.specs.declared.declaration.TypeKind.TheVariants as kind
use Rattle.decl_tree.specs.declared.compilation.ImportKind.{ImportKind}
use Rattle.decl_tree.specs.declared.compilation.ImportKind.TheVariants as import

abbrev pub primitive_number : PrimitiveKind → ℕ
primitive_number primitive.Boolean = 0
primitive_number primitive.Byte = 1
primitive_number primitive.Short = 2
primitive_number primitive.Int = 3
primitive_number primitive.Long = 4
primitive_number primitive.Char = 5
primitive_number primitive.Float = 6
primitive_number primitive.Double = 7
primitive_number primitive.Void = 8

abbrev pub primitive_of : ℕ → Option PrimitiveKind
primitive_of n =
    if n == 0 then Some primitive.Boolean else if n == 1 then Some primitive.Byte else if n == 2 then Some primitive.Short
    else if n == 3 then Some primitive.Int else if n == 4 then Some primitive.Long else if n == 5 then Some primitive.Char
    else if n == 6 then Some primitive.Float else if n == 7 then Some primitive.Double else if n == 8 then Some primitive.Void else None

abbrev pub kind_number : TypeKind → ℕ
kind_number kind.Enum = 1
kind_number kind.Class = 2
kind_number kind.AnnotationType = 3
kind_number kind.Interface = 4

abbrev pub kind_of : ℕ → Option TypeKind
kind_of n =
    if n == 1 then Some kind.Enum else if n == 2 then Some kind.Class else if n == 3 then Some kind.AnnotationType
    else if n == 4 then Some kind.Interface else None

abbrev pub import_number : ImportKind → ℕ
import_number import.Single = 0
import_number import.OnDemand = 1
import_number import.StaticSingle = 2
import_number import.StaticOnDemand = 3

abbrev pub import_of : ℕ → Option ImportKind
import_of n =
    if n == 0 then Some import.Single else if n == 1 then Some import.OnDemand else if n == 2 then Some import.StaticSingle
    else if n == 3 then Some import.StaticOnDemand else None
