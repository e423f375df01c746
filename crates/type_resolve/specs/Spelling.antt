-- The text of a type as it is written, without spaces but for those behind `?`, `extends` and `super`. It says nothing of what the type means.
use Rattle.std.specs.Prelude.{ℕ, Bool, true, false, List, [], ◌∷◌, ◌++◌, map, Option, None, Some, codes}
use Rattle.std.specs.List.{join_with_byte}
use Rattle.apt_base.specs.declared.around.Around.{Around}
use Rattle.apt_base.specs.declared.around.Around.TheVariants as around
use Rattle.decl_tree.specs.declared.type_text.BaseType.{BaseType}
use Rattle.decl_tree.specs.declared.type_text.NamedPart.{NamedPart}
use Rattle.decl_tree.specs.declared.type_text.TypeText.{TypeText}
use Rattle.decl_tree.specs.declared.type_text.BaseType.TheOpen.{BaseType-F, NamedPart-F, TypeText-F}
use Rattle.decl_tree.specs.declared.type_text.BaseType.TheFolds.{fold-BaseType, fold-NamedPart, fold-TypeText}
use Rattle.name_resolve.specs.Mirrors.{primitive_text, text_around}

abbrev pub base_step : BaseType-F (List ℕ) (List ℕ) (List ℕ) → List ℕ
base_step (BaseType-F.Primitive kind) = primitive_text kind
base_step (BaseType-F.Named parts) = join_with_byte 46 parts
base_step BaseType-F.Wildcard = codes "?"

abbrev pub in_brackets : Option (List (List ℕ)) → List ℕ
in_brackets None = []
in_brackets (Some list) = codes "<" ++ join_with_byte 44 list ++ codes ">"

abbrev pub part_step : NamedPart-F (List ℕ) (List ℕ) (List ℕ) → List ℕ
part_step part = part.name ++ in_brackets part.arguments

abbrev pub type_step : TypeText-F (List ℕ) (List ℕ) (List ℕ) → List ℕ
type_step text = text_around text.around text.base

unfoldable pub base_spelled : BaseType → List ℕ
base_spelled = fold-BaseType (List ℕ) (List ℕ) (List ℕ) base_step part_step type_step

unfoldable pub part_spelled : NamedPart → List ℕ
part_spelled = fold-NamedPart (List ℕ) (List ℕ) (List ℕ) base_step part_step type_step

unfoldable pub type_spelled : TypeText → List ℕ
type_spelled = fold-TypeText (List ℕ) (List ℕ) (List ℕ) base_step part_step type_step

-- some names of a class type with their arguments
abbrev pub parts_spelled : List NamedPart → List ℕ
parts_spelled parts = join_with_byte 46 (map part_spelled parts)

-- type arguments, and the same with what stands around them
abbrev pub types_spelled : List TypeText → List ℕ
types_spelled types = join_with_byte 44 (map type_spelled types)

abbrev pub arguments_spelled : Option (List TypeText) → List ℕ
arguments_spelled None = []
arguments_spelled (Some list) = codes "<" ++ types_spelled list ++ codes ">"

-- ---- piece by piece

-- what one thing around a base writes in front of it and behind it
abbrev pub front_of : Around → List ℕ
front_of around.Array = []
front_of around.Extends = codes "? extends "
front_of around.Super = codes "? super "

abbrev pub back_of : Around → List ℕ
back_of around.Array = codes "[]"
back_of around.Extends = []
back_of around.Super = []

-- nothing stands in front of the first item of a list
abbrev pub separator : Bool → List ℕ → List ℕ
separator true between = []
separator false between = between

-- the other items, each behind a separator
abbrev pub behind : ℕ → List (List ℕ) → List ℕ
behind c [] = []
behind c (x ∷ xs) = c ∷ x ++ behind c xs

-- the items from one on, which is the first or comes behind others
abbrev pub joined_from : Bool → ℕ → List (List ℕ) → List ℕ
joined_from true c xs = join_with_byte c xs
joined_from false c xs = behind c xs
