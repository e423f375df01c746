-- The question on the type of a member as a member of a type: which elements have to be there, what the type and the member have to be, and the answer.
use Rattle.std.specs.Prelude.{◌≡◌, Bool, true, false, not, ◌&&◌, Option, None, Some, Result, Ok, Err}
use Rattle.apt_base.specs.declared.element.ElementRef.{ElementRef}
use Rattle.apt_base.specs.Limits.{max_type_steps}
use Rattle.decl_elements.specs.Nodes.{Node, OfTypeParam}
use Rattle.element_table.specs.TypeTable.{TypeTable}
use Rattle.element_table.specs.TableElements.{node_at}
use Rattle.type_mirror.specs.declared.mirror.Mirror.{Mirror}
use Rattle.type_resolve.specs.Scopes.{is_type}
use Rattle.type_relations.specs.Elements.{is_there, around_of}
use Rattle.type_elements.specs.MemberElements.{class_element}
use Rattle.type_members.specs.MemberOf.{member_of}
use Rattle.type_members.specs.Reached.{IsReachedFrom, is_reached}
use Rattle.type_queries.specs.Verdicts.{are_there}
use Rattle.type_queries.specs.declared.fault.QueryFault.{QueryFault}
use Rattle.type_queries.specs.declared.fault.QueryFault.TheVariants as fault

-- ---- what the type and the member have to be

abbrev pub is_type_parameter : Option Node → Bool
is_type_parameter (Some (OfTypeParam parameter)) = true
is_type_parameter _ = false

-- no type parameter, and what is around it is a type
abbrev pub is_in_type : TypeTable → ElementRef → Bool
is_in_type table at = not (is_type_parameter (node_at table at)) && is_type table (around_of table at)

-- in a type that is this element or is reached from it
abbrev pub IsIn : TypeTable → Option ElementRef → ElementRef → Type 0
IsIn table from at = (is_in_type table at ≡ true) × IsReachedFrom table from (around_of table at)

-- a class type, and an element in a type that is reached from the element of the class type
abbrev pub AreOfKind : TypeTable → Mirror → ElementRef → Type 0
AreOfKind table container at = IsIn table (class_element container) at

-- the same as a test
abbrev pub is_in : TypeTable → Option ElementRef → ElementRef → Bool
is_in table None at = false
is_in table (Some from) at = is_in_type table at && is_reached table from (around_of table at)

abbrev pub is_member_of : TypeTable → Mirror → ElementRef → Bool
is_member_of table container at = is_in table (class_element container) at

abbrev pub both_there : TypeTable → Mirror → ElementRef → Bool
both_there table container at = are_there table container && is_there table at

pub record IsMember (table : TypeTable) (container : Mirror) (at : ElementRef) : Type 0 where
  pub there : both_there table container at ≡ true
  pub kinds : AreOfKind table container at

-- ---- what a call gives; out of memory may come in place of it

abbrev pub GivesMember : Result Mirror QueryFault → TypeTable → Mirror → ElementRef → Type 0
GivesMember (Ok m) table container at = IsMember table container at × (member_of table max_type_steps container at ≡ Some m)
GivesMember (Err fault.NoSuch) table container at = both_there table container at ≡ false
GivesMember (Err fault.WrongKind) table container at =
    (both_there table container at ≡ true) × (IsMember table container at → ⊥)
GivesMember (Err fault.TooDeep) table container at =
    IsMember table container at × (member_of table max_type_steps container at ≡ None)
GivesMember (Err fault.Memory) table container at = Unit {0}
