-- Whether a member hides or overrides another one, by what the methods of the type tell.
use Rattle.std.proofs.Common.{◌≡◌, Bool, true, false, ◌&&◌, List, refl, sym, ap, ap₂, ◌∙◌}
use Rattle.apt_base.specs.declared.element.ElementRef.{ElementRef}
use Rattle.apt_base.specs.Limits.{max_type_steps}
use Rattle.element_table.specs.TypeTable.{TypeTable}
use Rattle.type_levels.specs.Answers.{of_test, either, both}
use Rattle.type_levels.specs.declared.answer.Answer.{Answer}
use Rattle.type_levels.specs.declared.answer.Answer.TheVariants.{Yes, Open, No}
use Rattle.type_elements.specs.MemberElements.{are_namesakes, is_static}
use Rattle.type_overriding.specs.Methods as methods
use Rattle.type_overriding.specs.Methods.{Container, container_of}
use Rattle.type_overriding.specs.Overrides.{has_subsignature, overrides}
use Rattle.type_listing.specs.Displacing.{displaces_in, hides_by_name_in, hides_method_in, is_displaced_in, is_yes}
use Rattle.type_listing.specs.Members.{hides_method, displaces, is_displaced}

pub yes_is : (a : Answer) → is_yes a ≡ true → a ≡ Yes
yes_is Yes e = refl
yes_is Open e = absurd cc
yes_is No e = absurd cc

module _ (table : TypeTable) (within : Container) (m c : ElementRef) where
  abbrev by_tests : Bool → Bool → Answer
  by_tests static named = both (of_test (static && named)) (has_subsignature table max_type_steps within.element m c)

  -- of a static method, what its signature tells
  pub hidden : (static named : Bool) (r : Answer) → within.table ≡ table → static ≡ is_static table m → static ≡ true → named ≡ are_namesakes table m c → named ≡ true
      → r ≡ methods.has_subsignature within m c → r ≡ hides_method_in table within m c
  hidden static named r same s t n t' is =
      is ∙ ap (λ (x : TypeTable). has_subsignature x max_type_steps within.element m c) same ∙ sym (ap₂ by_tests (sym s ∙ t) (sym n ∙ t'))

  by_name : Bool → Answer
  by_name named = either (of_test named) (either (hides_method table within.element m c) (overrides table max_type_steps m c within.element))

  pub named-alike : (named : Bool) → named ≡ hides_by_name_in table m c → named ≡ true → Yes ≡ displaces_in table within m c
  unfolding displaces by_name
  named-alike named is e = sym (ap by_name (sym is ∙ e))

  -- of two methods, whether the one hides or overrides the other one
  pub by-methods : (now : Container) (named : Bool) (hides over r : Answer) → within.table ≡ table → now ≡ within → named ≡ hides_by_name_in table m c → named ≡ false
      → hides ≡ hides_method_in table within m c → over ≡ methods.overrides now m c → r ≡ either hides over → r ≡ displaces_in table within m c
  unfolding displaces by_name
  by-methods now named hides over r same kept is e h o joined =
      joined
      ∙ ap₂ (λ (a b : Answer). either a b) h
      (o ∙ ap (λ (x : Container). methods.overrides x m c) kept ∙ ap (λ (x : TypeTable). overrides x max_type_steps m c within.element) same)
      ∙ sym (ap by_name (sym is ∙ e))

-- in the type of the methods
pub at_type : (within : Container) (table : TypeTable) (t : ElementRef) (list : List ElementRef) (c : ElementRef) (r : Answer) → within ≡ container_of table t
    → r ≡ is_displaced_in table within list c → r ≡ is_displaced table t list c
at_type within table t list c r e is = is ∙ ap (λ (x : Container). is_displaced table x.element list c) e

pub ruleset displacing = (hidden, named-alike, by-methods)
