-- What tells the members of one name: a key, by which the members of a list are found that another one may displace.
use Rattle.std.specs.Prelude.{◌≡◌, ℕ, Bool, false, List, [], ◌∷◌, filter}
use Rattle.std.specs.List.{list_any}
use Rattle.std.specs.Str.{bytes_eq}
use Rattle.apt_base.specs.Elements.{same_element}
use Rattle.apt_base.specs.declared.element.ElementRef.{ElementRef}
use Rattle.element_table.specs.TypeTable.{TypeTable}
use Rattle.type_levels.specs.Answers.{any}
use Rattle.type_levels.specs.declared.answer.Answer.TheVariants.{No}
use Rattle.type_elements.specs.MemberElements.{MemberName, FieldName, TypeName, MethodName, OfConstructor, NoName, member_name}
use Rattle.type_listing.specs.Members.{displaces}

-- a letter in front tells fields, types, methods and constructors apart
abbrev pub name_key : MemberName → List ℕ
name_key (FieldName name) = 102 ∷ name
name_key (TypeName name) = 116 ∷ name
name_key (MethodName name) = 109 ∷ name
name_key OfConstructor = 99 ∷ []
name_key NoName = []

abbrev pub key_of : TypeTable → ElementRef → List ℕ
key_of table at = name_key (member_name table at)

abbrev pub has_key : TypeTable → List ℕ → ElementRef → Bool
has_key table key m = bytes_eq (key_of table m) key

-- the members of a list of c's name, in their order
abbrev pub namesakes : TypeTable → List ElementRef → ElementRef → List ElementRef
namesakes table list c = filter (has_key table (key_of table c)) list

-- ---- laws

-- a member displaces none of another name
abbrev pub OthersAreNotDisplaced : Type 0
OthersAreNotDisplaced =
    (table : TypeTable) (t m c : ElementRef) → has_key table (key_of table c) m ≡ false → displaces table t m c ≡ No

-- so those of its name alone have to be asked
abbrev pub NamesakesAreEnough : Type 0
NamesakesAreEnough =
    (table : TypeTable) (t c : ElementRef) (list : List ElementRef)
    → any (λ m. displaces table t m c) list ≡ any (λ m. displaces table t m c) (namesakes table list c)

-- a member is among those of its name, where it is there
abbrev pub IsAmongItsNamesakes : Type 0
IsAmongItsNamesakes =
    (table : TypeTable) (c : ElementRef) (list : List ElementRef)
    → list_any (same_element c) list ≡ list_any (same_element c) (namesakes table list c)
