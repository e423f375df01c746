-- Whether a method overrides another one in a type (JLS 8.4.8.1, 9.4.1.1), within a number of steps.
use Rattle.std.specs.Prelude.{ℕ, Bool, false, not, ◌&&◌, ◌||◌, Option, None, Some}
use Rattle.apt_base.specs.declared.element.ElementRef.{ElementRef}
use Rattle.apt_base.specs.Limits.{max_type_steps}
use Rattle.decl_elements.specs.Modifiers.{is_interface}
use Rattle.decl_elements.specs.Nodes.{Node, Inside}
use Rattle.element_table.specs.TypeTable.{TypeTable}
use Rattle.element_table.specs.TableElements.{node_at}
use Rattle.type_mirror.specs.declared.mirror.Mirror.{Mirror}
use Rattle.type_levels.specs.Answers.{of_test, both}
use Rattle.type_levels.specs.declared.answer.Answer.{Answer}
use Rattle.type_levels.specs.declared.answer.Answer.TheVariants.{Open}
use Rattle.type_relations.specs.Closed.{both_closed}
use Rattle.type_relations.specs.Elements.{around_of}
use Rattle.type_subtypes.specs.Subsignature.{subsignature}
use Rattle.type_elements.specs.TypeOf.{type_of}
use Rattle.type_elements.specs.MemberElements.{are_namesakes, is_static, is_private, package_allows}
use Rattle.type_members.specs.MemberOf.{member_of}
use Rattle.type_overriding.specs.ByElements.{is_below}

-- ---- what the two methods are

abbrev pub is_inside_interface : Option Node → Bool
is_inside_interface (Some (Inside kind member)) = is_interface kind
is_inside_interface _ = false

-- it is declared in an interface; an annotation interface is one (JLS 9.6)
abbrev pub is_of_interface : TypeTable → ElementRef → Bool
is_of_interface table at = is_inside_interface (node_at table at)

-- two methods of one name, neither static; the second one is neither private nor kept from the package of the
-- first one, and it is of an interface if the first one is
abbrev pub may_override : TypeTable → ElementRef → ElementRef → Bool
may_override table m o =
    are_namesakes table m o && not (is_static table m) && not (is_static table o)
    && not (is_private table o) && package_allows table m o
    && (not (is_of_interface table m) || is_of_interface table o)

-- ---- their signatures in a type

-- open where one of the two types is
abbrev pub signatures : TypeTable → ℕ → Option (Mirror × Mirror) → Answer
signatures table n None = Open
signatures table n (Some types) = subsignature table n types.0 types.1

-- `m` as a member of the type `t` has a subsignature of `o` as a member of it
abbrev pub has_subsignature : TypeTable → ℕ → ElementRef → ElementRef → ElementRef → Answer
has_subsignature table n t m o =
    signatures table n (both_closed (member_of table n (type_of table t) m) (member_of table n (type_of table t) o))

-- ---- overriding

-- a type is below both types that declare two methods
abbrev pub is_below_both : TypeTable → ℕ → ElementRef → ElementRef → ElementRef → Answer
is_below_both table n t m o = both (is_below table n t (around_of table m)) (is_below table n t (around_of table o))

-- `m` overrides `o` in the type `t`
unfoldable pub overrides : TypeTable → ℕ → ElementRef → ElementRef → ElementRef → Answer
overrides table n m o t =
    both (of_test (may_override table m o))
    (both (is_below_both table n t m o) (has_subsignature table n t m o))

-- ---- the answers within 64 steps

abbrev pub signature_answer : TypeTable → ElementRef → ElementRef → ElementRef → Answer
signature_answer table t m o = has_subsignature table max_type_steps t m o

abbrev pub below_answer : TypeTable → ElementRef → ElementRef → ElementRef → Answer
below_answer table t m o = is_below_both table max_type_steps t m o

abbrev pub overrides_answer : TypeTable → ElementRef → ElementRef → ElementRef → Answer
overrides_answer table m o t = overrides table max_type_steps m o t
