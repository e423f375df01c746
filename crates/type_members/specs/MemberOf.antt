-- The type of a member as a member of a type (JLS 4.5.2, 4.8), within a number of steps to the declaring supertype. Open is None.
use Rattle.std.specs.Prelude.{ℕ, zero, suc, Bool, not, ◌||◌, List, [], ◌∷◌, map, find, flat_map, Option, Some, if◌then◌else◌}
use Rattle.std.specs.Option.{option_map, option_and_then, option_or}
use Rattle.apt_base.specs.declared.element.ElementRef.{ElementRef}
use Rattle.element_table.specs.TypeTable.{TypeTable}
use Rattle.type_mirror.specs.declared.mirror.Mirror.{Mirror}
use Rattle.type_mirror.specs.Substitution.{substituted}
use Rattle.type_relations.specs.Closed.{closed}
use Rattle.type_relations.specs.Direct.{direct}
use Rattle.type_relations.specs.Elements.{around_of}
use Rattle.type_relations.specs.Erasure.{erasure}
use Rattle.type_relations.specs.RawTypes.{is_raw, replacements}
use Rattle.type_elements.specs.TypeOf.{type_of}
use Rattle.type_elements.specs.MemberElements.{is_static, is_in_parameterized, class_element, same_class}

-- ---- the supertype that is of an element

abbrev pub is_of : ElementRef → Mirror → Bool
is_of at m = same_class (Some at) (class_element m)

-- the direct supertypes of all of these: those of the first one come first, and of each the superclass
abbrev pub further : TypeTable → List Mirror → Option (List Mirror)
further table types = option_map (flat_map (λ supertypes. supertypes)) (closed (map (direct table) types))

-- the first one of the element: among these, or else within one step less further on
unfoldable pub nearest : TypeTable → ElementRef → ℕ → List Mirror → Option Mirror
nearest table at zero types = find (is_of at) types
nearest table at (suc n) types =
    option_or (find (is_of at) types) (option_and_then (nearest table at n) (further table types))

-- the supertype of a type that is of an element, the type itself included: the one with the fewest steps
abbrev pub supertype_of : TypeTable → ℕ → ElementRef → Mirror → Option Mirror
supertype_of table n at m = nearest table at n (m ∷ [])

-- ---- members

-- it has the same type in each type of which it is a member
abbrev pub is_fixed : TypeTable → ElementRef → Bool
is_fixed table at = is_static table at || not (is_in_parameterized table at)

-- in a raw type all is erased; in any other one its arguments stand in the place of the type parameters
abbrev pub seen_in : TypeTable → ℕ → ElementRef → Mirror → Option Mirror
seen_in table n at declaring =
    if is_raw table declaring then erasure table n (type_of table at)
    else Some (substituted (replacements table declaring) (type_of table at))

unfoldable pub member_of : TypeTable → ℕ → Mirror → ElementRef → Option Mirror
member_of table n container at =
    if is_fixed table at then Some (type_of table at)
    else option_and_then (seen_in table n at) (supertype_of table n (around_of table at) container)
