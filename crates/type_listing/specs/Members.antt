-- The members of a type (JLS 8.2, 9.2), its own and those that it inherits, within a number of levels of supertypes. Open is None.
use Rattle.std.specs.Prelude.{ℕ, zero, suc, Bool, false, not, ◌&&◌, ◌||◌, List, [], ◌∷◌, ◌++◌, map, fold, Option, None, Some, if◌then◌else◌}
use Rattle.std.specs.List.{list_any}
use Rattle.std.specs.Option.{option_and_then}
use Rattle.std.specs.Str.{bytes_eq}
use Rattle.apt_base.specs.Elements.{same_element}
use Rattle.apt_base.specs.declared.element.ElementRef.{ElementRef}
use Rattle.apt_base.specs.Limits.{max_type_steps}
use Rattle.element_table.specs.TypeTable.{TypeTable}
use Rattle.type_levels.specs.Answers.{of_test, either, both, any}
use Rattle.type_levels.specs.declared.answer.Answer.{Answer}
use Rattle.type_levels.specs.declared.answer.Answer.TheVariants.{Yes, Open, No}
use Rattle.type_relations.specs.Named.{header_types}
use Rattle.type_elements.specs.MemberElements.{MemberName, FieldName, TypeName, member_name, are_namesakes, is_constructor, is_private, is_static, package_allows, enclosed, class_elements}
use Rattle.type_overriding.specs.Overrides.{has_subsignature, overrides}

-- ---- which members are inherited, hidden and overridden

-- constructors and private members are not, and what has package access is within its package
abbrev pub is_inherited : TypeTable → ElementRef → ElementRef → Bool
is_inherited table t c = not (is_constructor table c) && not (is_private table c) && package_allows table t c

-- two fields, or two types, of one name (JLS 8.3, 8.5)
abbrev pub hides_by_name : MemberName → MemberName → Bool
hides_by_name (FieldName one) (FieldName other) = bytes_eq one other
hides_by_name (TypeName one) (TypeName other) = bytes_eq one other
hides_by_name _ _ = false

-- a static method hides the methods of which it has a subsignature (JLS 8.4.8.2)
abbrev pub hides_method : TypeTable → ElementRef → ElementRef → ElementRef → Answer
hides_method table t m c =
    both (of_test (is_static table m && are_namesakes table m c)) (has_subsignature table max_type_steps t m c)

-- `m` hides or overrides `c` in the type `t`
unfoldable pub displaces : TypeTable → ElementRef → ElementRef → ElementRef → Answer
displaces table t m c =
    either (of_test (hides_by_name (member_name table m) (member_name table c)))
    (either (hides_method table t m c) (overrides table max_type_steps m c t))

-- ---- the list

abbrev pub Elements : Type 0
Elements = List ElementRef

abbrev pub is_among : Elements → ElementRef → Bool
is_among list c = list_any (same_element c) list

-- one that is there hides or overrides it
abbrev pub is_displaced : TypeTable → ElementRef → Elements → ElementRef → Answer
is_displaced table t list c = any (λ m. displaces table t m c) list

abbrev pub unless_displaced : Answer → Elements → ElementRef → Option Elements
unless_displaced Yes list c = Some list
unless_displaced Open list c = None
unless_displaced No list c = Some (list ++ c ∷ [])

-- with one member more, unless it is there, or is not inherited, or one that is there hides or overrides it
unfoldable pub with_member : TypeTable → ElementRef → Elements → ElementRef → Option Elements
with_member table t list c =
    if is_among list c || not (is_inherited table t c) then Some list
    else unless_displaced (is_displaced table t list c) list c

-- with each of these, in order
abbrev pub with_members : TypeTable → ElementRef → Elements → Elements → Option Elements
with_members table t list [] = Some list
with_members table t list (c ∷ others) =
    option_and_then (λ more. with_members table t more others) (with_member table t list c)

-- with those of a supertype; open where these or the list are
abbrev pub with_supertype : TypeTable → ElementRef → Option Elements → Option Elements → Option Elements
with_supertype table t list others = option_and_then (λ so_far. option_and_then (with_members table t so_far) others) list

-- the superclass and the interfaces that are of the table, as the header has them
abbrev pub super_elements : TypeTable → ElementRef → Elements
super_elements table at = class_elements (header_types table at)

-- its own members, then those of its supertypes in order
abbrev pub members_over : TypeTable → (ElementRef → Option Elements) → ElementRef → Option Elements
members_over table inherited at =
    fold (with_supertype table at) (Some (enclosed table at)) (map inherited (super_elements table at))

-- with no level left those of a supertype are open
unfoldable pub members : TypeTable → ℕ → ElementRef → Option Elements
members table zero at = members_over table (λ super. None) at
members table (suc n) at = members_over table (members table n) at
