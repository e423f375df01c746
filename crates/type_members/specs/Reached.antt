-- Which types are reached from a type by direct supertypes, as elements and by any number of steps.
use Rattle.std.specs.Prelude.{ℕ, zero, suc, Bool, ◌||◌, IsTrue, List, [], Option, None, Some, unwrap_or, if◌then◌else◌}
use Rattle.std.specs.List.{list_any}
use Rattle.apt_base.specs.Elements.{same_element}
use Rattle.apt_base.specs.declared.element.ElementRef.{ElementRef}
use Rattle.element_table.specs.TypeTable.{TypeTable}
use Rattle.type_mirror.specs.declared.mirror.Mirror.{Mirror}
use Rattle.type_resolve.specs.Scopes.{is_type}
use Rattle.type_relations.specs.Direct.{direct}
use Rattle.type_elements.specs.TypeOf.{type_of}
use Rattle.type_elements.specs.MemberElements.{class_elements}

-- the direct supertypes of the type's own type; none of what is no type, and where they are open
abbrev pub types_from : TypeTable → ElementRef → List Mirror
types_from table at = if is_type table at then unwrap_or (direct table (type_of table at)) [] else []

-- one step from a type: the elements of the class types among these
unfoldable pub steps_from : TypeTable → ElementRef → List ElementRef
steps_from table at = class_elements (types_from table at)

unfoldable pub reached_within : TypeTable → ℕ → ElementRef → ElementRef → Bool
reached_within table zero from to = same_element from to
reached_within table (suc n) from to =
    same_element from to || list_any (λ next. reached_within table n next to) (steps_from table from)

-- by any number of steps, none included
abbrev pub IsReached : TypeTable → ElementRef → ElementRef → Type 0
IsReached table from to = (n : ℕ) × IsTrue (reached_within table n from to)

-- from the element of a class type; from what is none nothing is
abbrev pub IsReachedFrom : TypeTable → Option ElementRef → ElementRef → Type 0
IsReachedFrom table None to = ⊥
IsReachedFrom table (Some from) to = IsReached table from to

-- how many types are looked at: a way that comes to no type twice has fewer steps than a table has types
abbrev pub most_reached : ℕ
most_reached = 65536

-- by at most as many steps, as a test
unfoldable pub is_reached : TypeTable → ElementRef → ElementRef → Bool
is_reached table from to = reached_within table most_reached from to
