-- The text of a type piece by piece, in the order in which it is written.
use Rattle.std.specs.Prelude.{◌≡◌, ℕ, Bool, true, false, List, [], ◌∷◌, ◌++◌, map, codes, Option, String, string_bytes, Result, OnOk}
use Rattle.std.specs.List.{join_with_byte}
use Rattle.std.specs.Option.{option_map}
use Rattle.std.specs.declared.alloc.Global.{Global}
use Rattle.apt_base.specs.declared.element.ElementRef.{ElementRef}
use Rattle.element_table.specs.TypeTable.{TypeTable}
use Rattle.apt_base.specs.declared.around.Around.{Around}
use Rattle.apt_base.specs.declared.around.Around.TheVariants as around
use Rattle.type_mirror.specs.declared.mirror.Mirror.{Mirror}
use Rattle.type_mirror.specs.declared.mirror.BaseMirror.{BaseMirror}
use Rattle.type_mirror.specs.declared.mirror.BaseMirror.TheVariants as base
use Rattle.type_mirror.specs.declared.mirror.DeclaredMirror.{DeclaredMirror}
use Rattle.type_mirror.specs.declared.mirror.ExecutableMirror.{ExecutableMirror}
use Rattle.type_mirror.specs.Parts.{plain}
use Rattle.type_texts.specs.Print.{class_text, text_of}

-- where there was memory this was added to a text
abbrev pub IsAdded : {E : Type 0} → String Global → String Global → Result (Unit {0}) E → List ℕ → Type 0
IsAdded old new result added = OnOk result (string_bytes new ≡ string_bytes old ++ added)

-- what one thing around a base writes in front of it and behind it
abbrev pub front_of : Around → List ℕ
front_of around.Array = []
front_of around.Extends = codes "? extends "
front_of around.Super = codes "? super "

abbrev pub back_of : Around → List ℕ
back_of around.Array = codes "[]"
back_of around.Extends = []
back_of around.Super = []

abbrev pub base_text : TypeTable → BaseMirror → List ℕ
base_text table b = text_of table (plain b)

-- the name of a class type, behind the enclosing one if there is one
abbrev pub name_text : TypeTable → ElementRef → Option Mirror → List ℕ
name_text table at enclosing = class_text table at (option_map (text_of table) enclosing)

abbrev pub declared_text : TypeTable → DeclaredMirror → List ℕ
declared_text table d = text_of table (plain (base.Declared d))

abbrev pub executable_text : TypeTable → ExecutableMirror → List ℕ
executable_text table e = text_of table (plain (base.Executable e))

-- several types, with a comma between each two
abbrev pub types_text : TypeTable → List Mirror → List ℕ
types_text table types = join_with_byte 44 (map (text_of table) types)

-- nothing stands in front of the first item of a list
abbrev pub comma : Bool → List ℕ
comma true = []
comma false = codes ","

-- the other items, each behind a comma
abbrev pub behind : List (List ℕ) → List ℕ
behind [] = []
behind (x ∷ xs) = 44 ∷ x ++ behind xs

-- the items from one on, which is the first or comes behind others
abbrev pub listed_from : Bool → List (List ℕ) → List ℕ
listed_from true xs = join_with_byte 44 xs
listed_from false xs = behind xs
