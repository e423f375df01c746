-- What is remembered of methods is right, also when types are added and with one thing more.
use Rattle.std.proofs.Common.{◌≡◌, ℕ, cond, List, [], Option, Some, None, sym, ap, subst, ◌∙◌}
use Rattle.std.specs.BTreeMap.{BTreeMap, get, IsEmpty, IsUnchanged}
use Rattle.std.specs.Ordering.{nat_cmp, is_eq}
use Rattle.apt_base.proofs.FieldsLemmas.{some_is}
use Rattle.apt_base.specs.declared.element.ElementRef.{ElementRef}
use Rattle.element_table.specs.TypeTable.{TypeTable}
use Rattle.type_mirror.specs.declared.mirror.Mirror.{Mirror}
use Rattle.type_layers.specs.Layers.{declared_mirror}
use Rattle.type_levels.specs.declared.answer.Answer.{Answer}
use Rattle.type_numbers.specs.Numbers as numbers
use Rattle.type_numbers.specs.Numbers.{at, OptionStands, Stands}
use Rattle.type_numbers.proofs.NumberLaws.{grown-at, grown-known, grown-option}
use Rattle.type_numbers.proofs.RememberedValues.{each-found, each-more, each-none, each-same, each-weaker}
use Rattle.type_elements.specs.MemberElements.{class_element}
use Rattle.type_members.proofs.GatheredTypes.{bare_element}
use Rattle.type_memory.specs.Known.{Known, known_of}
use Rattle.type_overriding.specs.ByElements.{next_by_elements}
use Rattle.type_overriding.specs.Methods.{Seen, AreRight, IsBelow, IsFor, IsSignature, as_member, below_answer, seen_of}

-- the number of an element stands for no other one
class_is : (t : List Mirror) (number : ℕ) (one other : ElementRef) → Stands t number (declared_mirror one None []) → class_element (at t number) ≡ Some other → one ≡ other
class_is t number one other stands e = some_is one other (sym (bare_element one) ∙ sym (ap class_element stands.type) ∙ e)

-- ---- what a number has

module _ (seen : Seen) (number : ℕ) (m : ElementRef) (stands : IsFor seen number m) where
  class_of_it : class_element (at seen.types number) ≡ Some m
  class_of_it = ap class_element stands.type ∙ bare_element m

  -- what was found out of an element is what its number has
  pub signature-is : (found : Option ℕ) → OptionStands seen.types found (as_member seen m) → IsSignature seen number found
  signature-is found is = (
    stands.known,
    λ other e. subst (λ (x : ElementRef). OptionStands seen.types found (as_member seen x)) (class_is seen.types number m other stands e) is,
  )

  pub below-is : (answer : Answer) → answer ≡ below_answer seen m → IsBelow seen number answer
  below-is answer is = (stands.known, λ other e. is ∙ ap (below_answer seen) (class_is seen.types number m other stands e))

  -- and the other way round
  pub is-signature : (found : Option ℕ) → IsSignature seen number found → OptionStands seen.types found (as_member seen m)
  is-signature found is = is.1 m class_of_it

  pub is-below : (answer : Answer) → IsBelow seen number answer → answer ≡ below_answer seen m
  is-below answer is = is.1 m class_of_it

-- ---- types that are added

module _ (table : TypeTable) (element : ElementRef) (t t' : List Mirror) (g : numbers.Grows t t') where
  abbrev old : Seen
  old = seen_of table element t

  abbrev new : Seen
  new = seen_of table element t'

  same_class : (number : ℕ) (m : ElementRef) → numbers.IsKnown t number → class_element (at t' number) ≡ Some m → class_element (at t number) ≡ Some m
  same_class number m known e = ap class_element (sym (grown-at t t' number g known)) ∙ e

  signature_grown : (number : ℕ) (found : Option ℕ) → IsSignature old number found → IsSignature new number found
  signature_grown number found was = (
    grown-known t t' number g was.0,
    λ m e. grown-option t t' found (as_member old m) g (was.1 m (same_class number m was.0 e)),
  )

  below_grown : (number : ℕ) (answer : Answer) → IsBelow old number answer → IsBelow new number answer
  below_grown number answer was = (grown-known t t' number g was.0, λ m e. was.1 m (same_class number m was.0 e))

  pub right-grown : (known : Known) (types : BTreeMap ℕ (Option ℕ)) (answers : BTreeMap ℕ Answer) → AreRight old known types answers → AreRight new known types answers
  right-grown known types answers right = record {
    same = right.same;
    signatures = each-weaker (IsSignature old) (IsSignature new) types signature_grown right.signatures;
    below = each-weaker (IsBelow old) (IsBelow new) answers below_grown right.below;
  }

-- the same, where the table is that of before by an equation
pub right-over : (was table : TypeTable) (element : ElementRef) (t t' : List Mirror) → table ≡ was → numbers.Grows t t' → (known : Known) (types : BTreeMap ℕ (Option ℕ))
    (answers : BTreeMap ℕ Answer) → AreRight (seen_of was element t) known types answers → AreRight (seen_of table element t') known types answers
right-over was table element t t' kept g known types answers right =
    subst (λ (k : TypeTable). AreRight (seen_of k element t') known types answers) (sym kept) (right-grown was element t t' g known types answers right)

-- ---- what stands at numbers

module _ (seen : Seen) (known : Known) where
  pub right-none : (types : BTreeMap ℕ (Option ℕ)) (answers : BTreeMap ℕ Answer) → known ≡ known_of seen.table [] → IsEmpty types → IsEmpty answers → AreRight seen known types answers
  right-none types answers is none none' = record {
    same = ap (λ (k : Known). next_by_elements k.table) is;
    signatures = each-none (IsSignature seen) types none;
    below = each-none (IsBelow seen) answers none';
  }

  module _ (types : BTreeMap ℕ (Option ℕ)) (answers : BTreeMap ℕ Answer) (right : AreRight seen known types answers) where
    -- types were searched
    pub right-searched : (known' : Known) → next_by_elements known'.table ≡ next_by_elements seen.table → AreRight seen known' types answers
    right-searched known' same = record { same = same; signatures = right.signatures; below = right.below }

    pub signature-found : (number : ℕ) (found : Option ℕ) → get nat_cmp types number ≡ Some found → IsSignature seen number found
    signature-found number found here = each-found (IsSignature seen) types number found right.signatures here

    pub below-found : (number : ℕ) (answer : Answer) → get nat_cmp answers number ≡ Some answer → IsBelow seen number answer
    below-found number answer here = each-found (IsBelow seen) answers number answer right.below here

    -- nothing was put there
    pub signatures-same : (types' : BTreeMap ℕ (Option ℕ)) → IsUnchanged types types' → AreRight seen known types' answers
    signatures-same types' same = record {
      same = right.same;
      signatures = each-same (IsSignature seen) types types' same right.signatures;
      below = right.below;
    }

    pub below-same : (answers' : BTreeMap ℕ Answer) → IsUnchanged answers answers' → AreRight seen known types answers'
    below-same answers' same = record {
      same = right.same;
      signatures = right.signatures;
      below = each-same (IsBelow seen) answers answers' same right.below;
    }

    -- one thing more
    pub signatures-more : (types' : BTreeMap ℕ (Option ℕ)) (number : ℕ) (found : Option ℕ)
        → ((q : ℕ) → get nat_cmp types' q ≡ cond (is_eq (nat_cmp number q)) (Some found) (get nat_cmp types q)) → IsSignature seen number found
        → AreRight seen known types' answers
    signatures-more types' number found updates is = record {
      same = right.same;
      signatures = each-more (IsSignature seen) types types' number found right.signatures updates is;
      below = right.below;
    }

    pub below-more : (answers' : BTreeMap ℕ Answer) (number : ℕ) (answer : Answer)
        → ((q : ℕ) → get nat_cmp answers' q ≡ cond (is_eq (nat_cmp number q)) (Some answer) (get nat_cmp answers q)) → IsBelow seen number answer
        → AreRight seen known types answers'
    below-more answers' number answer updates is = record {
      same = right.same;
      signatures = right.signatures;
      below = each-more (IsBelow seen) answers answers' number answer right.below updates is;
    }
