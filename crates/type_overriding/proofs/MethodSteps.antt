-- What calls on the methods of one type give, one after another.
use Rattle.std.proofs.Common.{◌≡◌, ℕ, Bool, true, false, List, [], Option, None, refl, sym, ap, ap₂, subst, ◌∙◌}
use Rattle.std.specs.Option.{option_to_list}
use Rattle.apt_base.specs.declared.element.ElementRef.{ElementRef}
use Rattle.apt_base.specs.Limits.{max_type_steps}
use Rattle.element_table.specs.TypeTable.{TypeTable}
use Rattle.type_mirror.specs.declared.mirror.Mirror.{Mirror}
use Rattle.type_layers.specs.Layers.{declared_mirror}
use Rattle.type_levels.specs.Answers.{of_test, both}
use Rattle.type_levels.specs.declared.answer.Answer.{Answer}
use Rattle.type_levels.specs.declared.answer.Answer.TheVariants.{Yes, Open, No}
use Rattle.type_numbers.specs.Numbers as numbers
use Rattle.type_numbers.specs.Numbers.{AreKnown, OptionStands, Stands}
use Rattle.type_numbers.proofs.NumberLaws.{grown-option, grown-stands, grows-itself, grows-on}
use Rattle.type_elements.specs.TypeOf.{type_of}
use Rattle.type_members.specs.MemberNumbers.{MemberStands}
use Rattle.type_members.specs.MemberOf.{member_of}
use Rattle.type_relations.specs.Closed.{both_closed}
use Rattle.type_relations.specs.Elements.{around_of}
use Rattle.type_overriding.specs.ByElements.{is_below}
use Rattle.type_overriding.specs.ByNumbers.{signature_of}
use Rattle.type_overriding.specs.Methods.{Grows, IsBelow, IsFor, IsSignature, Seen, as_member, container_of}
use Rattle.type_overriding.specs.Methods as methods
use Rattle.type_overriding.specs.Overrides.{may_override, signatures, signature_answer, below_answer, overrides_answer, overrides}
use Rattle.type_overriding.proofs.OverridingSteps.{by-signature, may-not}
use Rattle.type_overriding.proofs.RememberedMethods.{below-is, is-below, is-signature, signature-is}

-- the type of a method as a member of a type, by the number of the type
pub member-of : (table : TypeTable) (within m : ElementRef) (t t' : List Mirror) (k : ℕ) (o : Option ℕ) → Stands t k (type_of table within) → MemberStands table t t' k m o
    → OptionStands t' o (member_of table max_type_steps (type_of table within) m)
member-of table within m t t' k o container stands = subst (λ (x : Mirror). OptionStands t' o (member_of table max_type_steps x m)) container.type stands

pub ruleset resolving = (member-of)

-- ---- one call behind another one

pub grows-further : (old mid new : Seen) → Grows old mid → Grows mid new → Grows old new
grows-further old mid new g g' = record {
  table = g'.table ∙ g.table;
  element = g'.element ∙ g.element;
  types = grows-on old.types mid.types new.types g.types g'.types;
}

pub seen-same : (seen : Seen) → Grows seen seen
seen-same seen = record { table = refl; element = refl; types = grows-itself seen.types }

module _ (old new : Seen) (g : Grows old new) where
  same_member : (m : ElementRef) → as_member new m ≡ as_member old m
  same_member m = ap₂ (λ (t : TypeTable) (e : ElementRef). member_of t max_type_steps (type_of t e) m) g.table g.element

  same_below : (m : ElementRef) → methods.below_answer new m ≡ methods.below_answer old m
  same_below m = ap₂ (λ (t : TypeTable) (e : ElementRef). is_below t max_type_steps e m) g.table g.element

  for_later : (number : ℕ) (m : ElementRef) → IsFor old number m → IsFor new number m
  for_later number m stands = grown-stands old.types new.types number (declared_mirror m None []) g.types stands

  -- what was found out is what the number of the element has
  pub signature-later : (number : ℕ) (m : ElementRef) (found : Option ℕ) → IsFor old number m → OptionStands new.types found (as_member old m) → IsSignature new number found
  signature-later number m found stands is =
      signature-is new number m (for_later number m stands) found (subst (λ (x : Option Mirror). OptionStands new.types found x) (sym (same_member m)) is)

  pub below-later : (number : ℕ) (m : ElementRef) (answer : Answer) → IsFor old number m → answer ≡ methods.below_answer old m → IsBelow new number answer
  below-later number m answer stands is = below-is new number m (for_later number m stands) answer (is ∙ sym (same_below m))

  -- what is recalled
  pub signature-recalled : (number : ℕ) (m : ElementRef) (found : Option ℕ) → IsFor new number m → IsSignature new number found → OptionStands new.types found (as_member old m)
  signature-recalled number m found stands is =
      subst (λ (x : Option Mirror). OptionStands new.types found x) (same_member m) (is-signature new number m stands found is)

  pub below-recalled : (number : ℕ) (m : ElementRef) (answer : Answer) → IsFor new number m → IsBelow new number answer → answer ≡ methods.below_answer old m
  below-recalled number m answer stands is = is-below new number m stands answer is ∙ same_below m

  -- what a later call gave
  pub signature-behind : (t : List Mirror) (m : ElementRef) (found : Option ℕ) → OptionStands t found (as_member new m) → OptionStands t found (as_member old m)
  signature-behind t m found is = subst (λ (x : Option Mirror). OptionStands t found x) (same_member m) is

  pub below-behind : (m : ElementRef) (answer : Answer) → answer ≡ methods.below_answer new m → answer ≡ methods.below_answer old m
  below-behind m answer is = is ∙ same_below m

-- ---- signatures

module _ (old mid new : Seen) (one other : ElementRef) (o o' : Option ℕ) (g : Grows old mid) (g' : Grows mid new)
    (first : OptionStands mid.types o (as_member old one)) (second : OptionStands new.types o' (as_member mid other)) where
  first_stands : OptionStands new.types o (as_member old one)
  first_stands = grown-option mid.types new.types o (as_member old one) g'.types first

  pub first-known : AreKnown new.types (option_to_list o)
  first-known = first_stands.known

  pub second-known : AreKnown new.types (option_to_list o')
  second-known = second.known

  pub both-compared : (r : Answer) → r ≡ signature_of new.table new.types o o' → r ≡ signature_answer old.table old.element one other
  both-compared r is =
      is
      ∙ ap (λ (t : TypeTable). signature_of t new.types o o') (g'.table ∙ g.table)
      ∙ ap₂ (λ (x y : Option Mirror). signatures old.table max_type_steps (both_closed x y)) first_stands.type (second.type ∙ same_member old mid g other)

-- ---- types that declare methods

pub below-around : (old : Seen) (m around : ElementRef) (r : Answer) → around ≡ around_of old.table m → r ≡ methods.below_answer old around
    → r ≡ methods.below_answer old (around_of old.table m)
below-around old m around r e is = is ∙ ap (methods.below_answer old) e

pub below-both : (old mid : Seen) (one other : ElementRef) (x y r : Answer) → Grows old mid → x ≡ methods.below_answer old (around_of old.table one)
    → y ≡ methods.below_answer mid (around_of mid.table other) → r ≡ both x y → r ≡ below_answer old.table old.element one other
below-both old mid one other x y r g is is' joined =
    joined
    ∙ ap₂ (λ (u v : Answer). both u v) is (is' ∙ ap₂ (λ (t : TypeTable) (e : ElementRef). is_below t max_type_steps e (around_of t other)) g.table g.element)

-- ---- overriding

both_no : (a : Answer) → both a No ≡ No
both_no Yes = refl
both_no Open = refl
both_no No = refl

pub not-allowed : (old : Seen) (one other : ElementRef) (may : Bool) → may ≡ may_override old.table one other → may ≡ false → No ≡ overrides_answer old.table one other old.element
not-allowed old one other may is e = may-not old.table old.element one other may is e

module _ (table : TypeTable) (within one other : ElementRef) where
  by_signature : Answer → Answer
  by_signature signature = both (of_test (may_override table one other)) (both (below_answer table within one other) signature)

  differ : (signature : Answer) → signature ≡ signature_answer table within one other → signature ≡ No → No ≡ overrides_answer table one other within
  unfolding overrides by_signature
  differ signature is e =
      sym (ap by_signature (sym is ∙ e)
      ∙ ap (both (of_test (may_override table one other))) (both_no (below_answer table within one other))
      ∙ both_no (of_test (may_override table one other)))

pub signatures-differ : (old : Seen) (one other : ElementRef) (signature : Answer) → signature ≡ signature_answer old.table old.element one other → signature ≡ No
    → No ≡ overrides_answer old.table one other old.element
signatures-differ old one other signature is e = differ old.table old.element one other signature is e

pub by-both : (old mid : Seen) (one other : ElementRef) (may : Bool) (signature below r : Answer) → Grows old mid → may ≡ may_override old.table one other → may ≡ true
    → signature ≡ signature_answer old.table old.element one other → below ≡ below_answer mid.table mid.element one other → r ≡ both below signature
    → r ≡ overrides_answer old.table one other old.element
by-both old mid one other may signature below r g is e is' is'' joined =
    by-signature old.table old.element one other may below signature r is e
    (is'' ∙ ap₂ (λ (t : TypeTable) (x : ElementRef). below_answer t x one other) g.table g.element) is' joined

pub ruleset knowing = (
  grows-further,
  seen-same,
  signature-later,
  below-later,
  signature-recalled,
  below-recalled,
  signature-behind,
  below-behind,
  first-known,
  second-known,
  both-compared,
  below-around,
  below-both,
  not-allowed,
  signatures-differ,
  by-both,
)

-- ---- without the types

pub kept-by : (old new : Seen) → Grows old new → container_of new.table new.element ≡ container_of old.table old.element
kept-by old new g = ap₂ (λ (t : TypeTable) (e : ElementRef). container_of t e) g.table g.element

pub ruleset keeping = (kept-by)
