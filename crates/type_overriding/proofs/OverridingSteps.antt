-- Signatures of two methods in a type, and whether one of them overrides the other one, part by part.
use Rattle.std.proofs.Common.{◌≡◌, ℕ, Bool, true, false, List, Option, None, Some, sym, ap, ap₂, subst, ◌∙◌}
use Rattle.std.specs.Option.{option_to_list}
use Rattle.apt_base.specs.declared.element.ElementRef.{ElementRef}
use Rattle.apt_base.specs.Limits.{max_type_steps}
use Rattle.element_table.specs.TypeTable.{TypeTable}
use Rattle.type_mirror.specs.declared.mirror.Mirror.{Mirror}
use Rattle.type_elements.specs.TypeOf.{type_of}
use Rattle.type_levels.specs.Answers.{of_test, both}
use Rattle.type_levels.specs.declared.answer.Answer.{Answer}
use Rattle.type_levels.specs.declared.answer.Answer.TheVariants.{Open, No}
use Rattle.type_members.specs.MemberNumbers.{MemberStands}
use Rattle.type_members.specs.MemberOf.{member_of}
use Rattle.type_numbers.specs.Numbers.{IsKnown, AreKnown, OptionStands, Stands, Grows}
use Rattle.type_numbers.proofs.NumberLaws.{grown-stands, grown-option}
use Rattle.type_relations.specs.Closed.{both_closed}
use Rattle.type_relations.specs.Elements.{around_of}
use Rattle.type_overriding.specs.ByElements.{is_below}
use Rattle.type_overriding.specs.ByNumbers.{signature_at, signature_of}
use Rattle.type_overriding.specs.Overrides.{may_override, signatures, signature_answer, below_answer, overrides_answer, overrides}

-- ---- two types that may be open

pub number-known : (t : List Mirror) (o : Option ℕ) (i : ℕ) → AreKnown t (option_to_list o) → o ≡ Some i → IsKnown t i
number-known t o i known is = let all : AreKnown t (option_to_list (Some i)) = subst (λ (x : Option ℕ). AreKnown t (option_to_list x)) is known in all.0

module _ (table : TypeTable) (t : List Mirror) (o o' : Option ℕ) where
  pub first-open : o ≡ None → Open ≡ signature_of table t o o'
  first-open is = sym (ap (λ (x : Option ℕ). signature_of table t x o') is)

  pub second-open : (i : ℕ) → o ≡ Some i → o' ≡ None → Open ≡ signature_of table t o o'
  second-open i is is' = sym (ap₂ (λ (x y : Option ℕ). signature_of table t x y) is is')

  pub both-signed : (i j : ℕ) (r : Answer) → o ≡ Some i → o' ≡ Some j → r ≡ signature_at table t i j → r ≡ signature_of table t o o'
  both-signed i j r is is' signed = signed ∙ sym (ap₂ (λ (x y : Option ℕ). signature_of table t x y) is is')

pub ruleset signing = (number-known, first-open, second-open, both-signed)

module _ (table : TypeTable) (within one other : ElementRef) where
  -- ---- signatures

  abbrev as_member : ElementRef → Option Mirror
  as_member m = member_of table max_type_steps (type_of table within) m

  -- the type of a member, by the number of the container
  member_is : (t t' : List Mirror) (k : ℕ) (m : ElementRef) (o : Option ℕ) → Stands t k (type_of table within) → MemberStands table t t' k m o → OptionStands t' o (as_member m)
  member_is t t' k m o container stands = subst (λ (x : Mirror). OptionStands t' o (member_of table max_type_steps x m)) container.type stands

  module _ (t t' t'' : List Mirror) (k : ℕ) (o o' : Option ℕ) (container : Stands t k (type_of table within)) (first : MemberStands table t t' k one o) (g : Grows t t')
      (second : MemberStands table t' t'' k other o') (g' : Grows t' t'') where
    first_stands : OptionStands t'' o (as_member one)
    first_stands = grown-option t' t'' o (as_member one) g' (member_is t t' k one o container first)

    second_stands : OptionStands t'' o' (as_member other)
    second_stands = member_is t' t'' k other o' (grown-stands t t' k (type_of table within) g container) second

    pub members-known : AreKnown t'' (option_to_list o) × AreKnown t'' (option_to_list o')
    members-known = (first_stands.known, second_stands.known)

    pub members-signed : (r : Answer) → r ≡ signature_of table t'' o o' → r ≡ signature_answer table within one other
    members-signed r is = is ∙ ap₂ (λ (x y : Option Mirror). signatures table max_type_steps (both_closed x y)) first_stands.type second_stands.type

  -- ---- overriding

  pub below-joined : (a b : ElementRef) (x y r : Answer) → a ≡ around_of table one → x ≡ is_below table max_type_steps within a → b ≡ around_of table other
      → y ≡ is_below table max_type_steps within b → r ≡ both x y → r ≡ below_answer table within one other
  below-joined a b x y r e is e' is' joined =
      joined
      ∙ ap₂ (λ (u v : Answer). both u v) (is ∙ ap (λ (m : ElementRef). is_below table max_type_steps within m) e) (is' ∙ ap (λ (m : ElementRef). is_below table max_type_steps within m) e')

  by_parts : Bool → Answer → Answer
  by_parts may below = both (of_test may) (both below (signature_answer table within one other))

  pub may-not : (may : Bool) → may ≡ may_override table one other → may ≡ false → No ≡ overrides_answer table one other within
  unfolding overrides by_parts
  may-not may is e = sym (ap (λ (b : Bool). by_parts b (below_answer table within one other)) (sym is ∙ e))

  pub is-not-below : (may : Bool) (below : Answer) → may ≡ may_override table one other → may ≡ true → below ≡ below_answer table within one other → below ≡ No
      → No ≡ overrides_answer table one other within
  unfolding overrides by_parts
  is-not-below may below is e is' e' = sym (ap₂ by_parts (sym is ∙ e) (sym is' ∙ e'))

  pub by-signature : (may : Bool) (below signature r : Answer) → may ≡ may_override table one other → may ≡ true → below ≡ below_answer table within one other
      → signature ≡ signature_answer table within one other → r ≡ both below signature → r ≡ overrides_answer table one other within
  unfolding overrides by_parts
  by-signature may below signature r is e is' is'' joined =
      joined
      ∙ ap₂ (λ (x y : Answer). both x y) is' is''
      ∙ sym (ap (λ (b : Bool). by_parts b (below_answer table within one other)) (sym is ∙ e))

pub ruleset overriding = (below-joined, may-not, is-not-below, by-signature)
