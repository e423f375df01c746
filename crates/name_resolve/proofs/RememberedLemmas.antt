-- What is remembered is right, stays right, and gives what is asked for.
use Rattle.std.proofs.Common.{◌≡◌, ℕ, zero, suc, ◌-◌, ◌≤◌, Bool, true, false, ◌&&◌, Option, Some, None, List, [], ◌∷◌, length, slice_get, string_bytes, if◌then◌else◌, refl, sym, ap, ◌∙◌, arith}
use Rattle.std.specs.Option.{option_or}
use Rattle.std.specs.Str.{bytes_eq}
use Rattle.std.proofs.lemmas.Slice.Eq.{bytes_eq-Decides}
use Rattle.element_table.specs.declared.part.Part.{Part}
use Rattle.element_table.specs.declared.part.Part.TheVariants.{Source, Stub}
use Rattle.element_table.specs.TypeTable.{TypeTable, IsTable}
use Rattle.name_resolve.specs.declared.finds.Finds.{Finds}
use Rattle.name_resolve.specs.declared.member_types.MemberTypes.{MemberTypes}
use Rattle.name_resolve.specs.declared.memory.Question.{Question}
use Rattle.name_resolve.specs.Finds as find
use Rattle.name_resolve.specs.Finds.{Find, Nothing, One, Several, same_find, declared_types}
use Rattle.name_resolve.specs.Meaning.{Members, members_within}
use Rattle.name_resolve.specs.Parts.{left}
use Rattle.name_resolve.specs.Placed.{IsPlaced, ArePlaced}
use Rattle.name_resolve.specs.Remembered.{same_part, same_finds, asks, answer_of, Stands, is_settled, Agrees, IsRight, AreRight, tops_in}
use Rattle.name_resolve.specs.Shown.{find_of, finds_of}
use Rattle.name_resolve.proofs.PlacedLemmas.{same_is}
use Rattle.name_resolve.proofs.Settled.{within-zero, within-way, within-above}

-- ---- finds

part_is : (p q : Part) → same_part p q ≡ true → p ≡ q
part_is Source Source e = refl
part_is Source Stub e = absurd (cc)
part_is Stub Source e = absurd (cc)
part_is Stub Stub e = refl

two_tests : (a b : Bool) → (a && b) ≡ true → (a ≡ true) × (b ≡ true)
two_tests true true e = (refl, refl)
two_tests true false e = absurd (cc)
two_tests false b e = absurd (cc)

three_tests : (a b c : Bool) → (a && (b && c)) ≡ true → (a ≡ true) × ((b ≡ true) × (c ≡ true))
three_tests true true true e = (refl, (refl, refl))
three_tests true true false e = absurd (cc)
three_tests true false c e = absurd (cc)
three_tests false b c e = absurd (cc)

-- finds of the table that are found the same are
pub same-finds-are : (table : TypeTable) (x y : find.Finds) → ArePlaced table x → ArePlaced table y → same_finds x y ≡ true → x ≡ y
same-finds-are table Nothing Nothing p q e = refl
same-finds-are table Nothing (One g) p q e = absurd (cc)
same-finds-are table Nothing Several p q e = absurd (cc)
same-finds-are table (One f) Nothing p q e = absurd (cc)
same-finds-are table (One f) (One g) p q e = let t = two_tests _ _ e in ap One (same_is table f g p q (part_is _ _ t.0) t.1)
same-finds-are table (One f) Several p q e = absurd (cc)
same-finds-are table Several Nothing p q e = absurd (cc)
same-finds-are table Several (One g) p q e = absurd (cc)
same-finds-are table Several Several p q e = refl

-- a question that is about a name of a type is about the same type and name
pub asked-is : (table : TypeTable) (q : Question) (f : Find) (name : List ℕ) → IsPlaced table (find_of q.of) → IsPlaced table f → asks q f name ≡ true
    → (find_of q.of ≡ f) × (string_bytes q.name ≡ name)
asked-is table q f name placed placed' e =
    let t = three_tests _ _ _ e in (same_is table (find_of q.of) f placed placed' (part_is _ _ t.0) t.1.0, (bytes_eq-Decides _ _).0 t.1.1)

-- ---- what is known with some number of levels is what these levels find

pub none_past : {A : Type 0} (xs : List A) (i : ℕ) → slice_get xs i ≡ None → length xs ≤ i
none_past [] i e = omega arith
none_past (x ∷ xs) zero e = absurd (cc)
none_past (x ∷ xs) (suc i) e = let below = none_past xs i e in omega (arith, below)

pub some_is : {A : Type 0} (x y : A) → Some x ≡ Some y → x ≡ y
some_is x y e = cc

if_settled : {A : Type 0} (settled : Bool) (o : Option A) (x : A) → (if settled then o else None) ≡ Some x → (settled ≡ true) × (o ≡ Some x)
if_settled true o x e = (refl, e)
if_settled false o x e = absurd (cc)

none_there : {A : Type 0} (xs : List A) (i : ℕ) (x : A) → xs ≡ [] → slice_get xs i ≡ Some x → ⊥
none_there {A = A} xs i x none e = let past = sym (ap (λ (ys : List A). slice_get ys i) none) ∙ e in absurd (cc)

-- nothing was asked yet
pub none-right : (memory : MemberTypes) → IsTable memory.table.now → memory.questions.items ≡ [] → memory.settled.count ≡ 0 → AreRight memory
none-right memory is none settled = record {
  is_table = is;
  count = omega (arith, settled);
  each = λ place q stands. absurd (none_there memory.questions.items place q none stands);
}

module _ (memory : MemberTypes) (right : AreRight memory) where
  module _ (place : ℕ) (q : Question) (stands : Stands memory place q) where
    here : IsRight memory place q
    here = right.each place q stands

    abbrev within : ℕ → find.Finds
    within levels = members_within (tops_in memory) levels (find_of q.of) (string_bytes q.name)

    by_answer : (levels : ℕ) → ((answer : Finds) → slice_get q.answers.items levels ≡ Some answer → finds_of answer ≡ within levels)
        → (o : Option Finds) → slice_get q.answers.items levels ≡ o → (answer : Finds)
        → option_or o (if is_settled memory place then slice_get q.answers.items (length q.answers.items - 1) else None) ≡ Some answer → finds_of answer ≡ within levels
    by_answer levels kept (Some a) is answer e = kept answer (is ∙ e)
    by_answer levels kept None is answer e = let s = if_settled _ _ _ e in here.lasting s.0 levels answer (none_past _ _ is) s.1

    at_first : (answer : Finds) → slice_get q.answers.items 0 ≡ Some answer → finds_of answer ≡ within 0
    at_first answer is = here.first answer is ∙ sym here.none ∙ within-zero (tops_in memory) (find_of q.of) (string_bytes q.name)

    at_next : (levels : ℕ) → Agrees memory levels (members_within (tops_in memory) levels) → (answer : Finds) → slice_get q.answers.items (suc levels) ≡ Some answer
        → finds_of answer ≡ within (suc levels)
    at_next levels agrees answer is =
        here.next levels answer is (members_within (tops_in memory) levels) agrees ∙ within-above (tops_in memory) levels (find_of q.of) (string_bytes q.name) here.none

  within-agrees : (levels : ℕ) → Agrees memory levels (members_within (tops_in memory) levels)
  within-agrees zero = record {
    way = within-way (tops_in memory) 0;
    known = λ place q answer stands e. by_answer place q stands 0 (at_first place q stands) (slice_get q.answers.items 0) refl answer e;
  }
  within-agrees (suc levels) = record {
    way = within-way (tops_in memory) (suc levels);
    known = λ place q answer stands e. by_answer place q stands (suc levels) (at_next place q stands levels (within-agrees levels)) (slice_get q.answers.items (suc levels)) refl answer e;
  }

  pub left-agrees : (levels : ℕ) → Agrees memory levels (left memory.table.now levels)
  left-agrees levels = within-agrees levels

  -- what is known with some number of levels
  pub known-within : (levels place : ℕ) (q : Question) (answer : Finds) → Stands memory place q → answer_of q (is_settled memory place) levels ≡ Some answer
      → finds_of answer ≡ members_within (tops_in memory) levels (find_of q.of) (string_bytes q.name)
  known-within levels place q answer stands e = (within-agrees levels).known place q answer stands e

  -- what is known of a question is what each way to find member types gives that finds what is known
  pub recalled-is : (levels place : ℕ) (q : Question) (answer : Finds) (f : Find) (name : List ℕ) → Stands memory place q → IsPlaced memory.table.now f → asks q f name ≡ true
      → answer_of q (is_settled memory place) levels ≡ Some answer → (members : Members) → Agrees memory levels members → finds_of answer ≡ members f name
  recalled-is levels place q answer f name stands placed asked is members agrees =
      let same = asked-is memory.table.now q f name (right.each place q stands).placed placed asked in
      agrees.known place q answer stands is ∙ (λ i. members (same.0 i) (same.1 i))
