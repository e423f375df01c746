-- Which members displace others, by the type of which they are members.
use Rattle.std.specs.Prelude.{Bool, true, false, List}
use Rattle.apt_base.specs.declared.element.ElementRef.{ElementRef}
use Rattle.element_table.specs.TypeTable.{TypeTable}
use Rattle.type_levels.specs.declared.answer.Answer.{Answer}
use Rattle.type_levels.specs.declared.answer.Answer.TheVariants.{Yes, Open, No}
use Rattle.type_elements.specs.MemberElements.{member_name}
use Rattle.type_overriding.specs.Methods.{Container}
use Rattle.type_listing.specs.Members.{hides_by_name, hides_method, displaces, is_displaced}

abbrev pub is_yes : Answer → Bool
is_yes Yes = true
is_yes Open = false
is_yes No = false

abbrev pub hides_by_name_in : TypeTable → ElementRef → ElementRef → Bool
hides_by_name_in table m c = hides_by_name (member_name table m) (member_name table c)

abbrev pub hides_method_in : TypeTable → Container → ElementRef → ElementRef → Answer
hides_method_in table within m c = hides_method table within.element m c

abbrev pub displaces_in : TypeTable → Container → ElementRef → ElementRef → Answer
displaces_in table within m c = displaces table within.element m c

abbrev pub is_displaced_in : TypeTable → Container → List ElementRef → ElementRef → Answer
is_displaced_in table within list c = is_displaced table within.element list c
