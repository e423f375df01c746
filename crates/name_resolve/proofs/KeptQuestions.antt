-- What stays known where a question is asked or answered, so that all stays right.
use Rattle.std.proofs.Common.{◌≡◌, ◌≢◌, ℕ, zero, suc, ◌-◌, ◌<◌, ◌≤◌, eqb, ltb, Bool, true, false, ◌⊎◌, inl, inr, Option, Some, None, List, [], ◌∷◌, ◌++◌, length, set, slice_get, string_bytes, length-append, length-set, if◌then◌else◌, refl, sym, subst, ap, ◌∙◌, arith}
use Rattle.std.specs.Option.{option_or}
use Rattle.std.proofs.lemmas.Bool.{le-ltb}
use Rattle.std.proofs.lemmas.Bool.Decides.{eqb_tells}
use Rattle.name_resolve.specs.declared.finds.Finds.{Finds}
use Rattle.name_resolve.specs.declared.finds.Finds.TheVariants as finds
use Rattle.name_resolve.specs.declared.member_types.MemberTypes.{MemberTypes}
use Rattle.name_resolve.specs.declared.member_types.Settled.{Settled}
use Rattle.name_resolve.specs.declared.memory.Question.{Question}
use Rattle.element_table.specs.TypeTable.{IsTable}
use Rattle.name_resolve.specs.Finds as find
use Rattle.name_resolve.specs.Finds.{Nothing, declared_types}
use Rattle.name_resolve.specs.Meaning.{Members, tops_of, inherited, members_within}
use Rattle.name_resolve.specs.Placed.{IsPlaced}
use Rattle.name_resolve.specs.Remembered.{answer_of, Stands, is_settled, Agrees, Follows, IsRight, AreRight, IsNextAnswer}
use Rattle.name_resolve.specs.Shown.{find_of, finds_of}
use Rattle.name_resolve.proofs.RememberedLemmas.{some_is}

-- what was known still is
pub record IsKept (old new : MemberTypes) (place : ℕ) (q : Question) : Type 0 where
  pub now : Question
  pub stands : Stands new place now
  pub of : find_of now.of ≡ find_of q.of
  pub name : string_bytes now.name ≡ string_bytes q.name
  pub answers : (levels : ℕ) (answer : Finds) → answer_of q (is_settled old place) levels ≡ Some answer → answer_of now (is_settled new place) levels ≡ Some answer

abbrev pub AreKept : MemberTypes → MemberTypes → Type 0
AreKept old new = (place : ℕ) (q : Question) → Stands old place q → IsKept old new place q

module _ (old new : MemberTypes) (kept : AreKept old new) where
  pub agrees-back : (levels : ℕ) (members : Members) → Agrees new levels members → Agrees old levels members
  agrees-back levels members agrees = record {
    way = agrees.way;
    known = λ place q answer stands e.
        let k = kept place q stands in
        agrees.known place k.now answer k.stands (k.answers levels answer e) ∙ (λ i. members (k.of i) (k.name i));
  }

  -- what followed from less follows from more
  pub follows-on : new.table.now ≡ old.table.now → (levels : ℕ) (q now : Question) (what : find.Finds) → find_of now.of ≡ find_of q.of → string_bytes now.name ≡ string_bytes q.name
      → Follows old levels q what → Follows new levels now what
  follows-on table levels q now what of name follows members agrees =
      follows members (agrees-back levels members agrees) ∙ sym (λ i. inherited (tops_of (table i)) members (of i) (name i))

  -- a question with the same answers stays right
  pub still-right : new.table.now ≡ old.table.now → new.settled ≡ old.settled → (place : ℕ) (held now : Question) → find_of now.of ≡ find_of held.of → string_bytes now.name ≡ string_bytes held.name
      → now.answers.items ≡ held.answers.items → IsRight old place held → IsRight new place now
  still-right table settled place held now of name answers r = record {
    placed = subst (λ t. IsPlaced t (find_of now.of)) (sym table) (subst (IsPlaced old.table.now) (sym of) r.placed);
    none = (λ i. declared_types (of i) (name i)) ∙ r.none;
    some = subst (λ xs. 0 < length xs) (sym answers) r.some;
    first = λ answer e. r.first answer (sym (ap (λ xs. slice_get xs 0) answers) ∙ e);
    next = λ levels answer e. follows-on table levels held now (finds_of answer) of name (r.next levels answer (sym (ap (λ xs. slice_get xs (suc levels)) answers) ∙ e));
    lasting = λ is levels answer long e.
        r.lasting (sym (ap (λ (s : Settled). ltb place s.count) settled) ∙ is) levels answer (subst (λ xs. length xs ≤ levels) answers long) (sym (ap (λ xs. slice_get xs (length xs - 1)) answers) ∙ e)
        ∙ sym (λ i. members_within (tops_of (table i)) levels (of i) (name i));
    even = λ is levels more.
        (λ i. members_within (tops_of (table i)) levels (of i) (name i))
        ∙ r.even (sym (ap (λ (s : Settled). ltb place s.count) settled) ∙ is) levels (subst (λ (s : Settled). s.levels ≤ levels) settled more)
        ∙ sym (λ i. members_within (tops_of (table i)) (settled i).levels (of i) (name i));
  }

-- what follows for the question at a place follows for whatever stands there
pub follows-there : (memory : MemberTypes) (place levels : ℕ) (q : Question) (what : find.Finds) → Stands memory place q → length q.answers.items ≡ suc levels → Follows memory levels q what
    → (held : Question) (known : ℕ) → Stands memory place held → length held.answers.items ≡ suc known → Follows memory known held what
follows-there memory place levels q what stands long follows held known is held-long =
    let same : q ≡ held = some_is q held (sym stands ∙ is) in
    let lengths : length q.answers.items ≡ length held.answers.items = ap (λ (x : Question). length x.answers.items) same in
    let level : levels ≡ known = omega (arith, long, held-long, lengths) in
    subst (λ n. Follows memory n held what) level (subst (λ x. Follows memory levels x what) same follows)

-- ---- lists

front_get : {A : Type 0} (xs : List A) (x y : A) (i : ℕ) → slice_get xs i ≡ Some y → slice_get (xs ++ x ∷ []) i ≡ Some y
front_get [] x y i e = absurd (cc)
front_get (z ∷ zs) x y zero e = e
front_get (z ∷ zs) x y (suc i) e = front_get zs x y i e

front_or_last : {A : Type 0} (xs : List A) (x y : A) (i : ℕ) → slice_get (xs ++ x ∷ []) i ≡ Some y → (slice_get xs i ≡ Some y) ⊎ ((i ≡ length xs) × (x ≡ y))
front_or_last [] x y zero e = inr (refl, some_is x y e)
front_or_last [] x y (suc i) e = absurd (cc)
front_or_last (z ∷ zs) x y zero e = inl e
front_or_last (z ∷ zs) x y (suc i) e = behind (front_or_last zs x y i e)
  where
    behind : (slice_get zs i ≡ Some y) ⊎ ((i ≡ length zs) × (x ≡ y)) → (slice_get zs i ≡ Some y) ⊎ ((suc i ≡ suc (length zs)) × (x ≡ y))
    behind (inl is) = inl is
    behind (inr last) = inr (ap suc last.0, last.1)

set_get : {A : Type 0} (xs : List A) (x y : A) (i : ℕ) → slice_get xs i ≡ Some y → slice_get (set xs i x) i ≡ Some x
set_get [] x y i e = absurd (cc)
set_get (z ∷ zs) x y zero e = refl
set_get (z ∷ zs) x y (suc i) e = set_get zs x y i e

other_get : {A : Type 0} (xs : List A) (x : A) (i j : ℕ) → (i ≡ j → ⊥) → slice_get (set xs i x) j ≡ slice_get xs j
other_get [] x i j apart = refl
other_get (z ∷ zs) x zero zero apart = absurd (apart refl)
other_get (z ∷ zs) x zero (suc j) apart = refl
other_get (z ∷ zs) x (suc i) zero apart = refl
other_get (z ∷ zs) x (suc i) (suc j) apart = other_get zs x i j (λ e. apart (ap suc e))

-- ---- settled or not

pub same_place : (a b : ℕ) → (a ≡ b) ⊎ (a ≡ b → ⊥)
same_place a b = by_test (eqb_tells a b)
  where
    by_test : ((eqb a b ≡ true) × (a ≡ b)) ⊎ ((eqb a b ≡ false) × (a ≢ b)) → (a ≡ b) ⊎ (a ≡ b → ⊥)
    by_test (inl is) = inl is.1
    by_test (inr apart) = inr apart.1

pub not_true : (b : Bool) → b ≡ true → b ≡ false → ⊥
not_true b t f = absurd (cc)

-- ---- a question is asked

module _ (old new : MemberTypes) (q : Question) (right : AreRight old) (table : new.table.now ≡ old.table.now) (settled : new.settled ≡ old.settled) (questions : new.questions.items ≡ old.questions.items ++ q ∷ []) where
  asked-kept : AreKept old new
  asked-kept place held stands = record {
    now = held;
    stands = ap (λ xs. slice_get xs place) questions ∙ front_get old.questions.items q held place stands;
    of = refl;
    name = refl;
    answers = λ levels answer e. ap (λ (s : Settled). answer_of held (ltb place s.count) levels) settled ∙ e;
  }

  module _ (placed : IsPlaced old.table.now (find_of q.of)) (none : declared_types (find_of q.of) (string_bytes q.name) ≡ Nothing) (answers : q.answers.items ≡ finds.Nothing ∷ []) where
    only_first : (answer : Finds) → slice_get q.answers.items 0 ≡ Some answer → finds_of answer ≡ Nothing
    only_first answer e = ap finds_of (sym (some_is _ _ (sym (ap (λ xs. slice_get xs 0) answers) ∙ e)))

    no_next : (levels : ℕ) (answer : Finds) → slice_get q.answers.items (suc levels) ≡ Some answer → ⊥
    no_next levels answer e = let none = sym (ap (λ xs. slice_get xs (suc levels)) answers) ∙ e in absurd (cc)

    is-open : (place : ℕ) → place ≡ length old.questions.items → is_settled new place ≡ true → ⊥
    is-open place at is = not_true (is_settled new place) is (ap (λ (s : Settled). ltb place s.count) settled ∙ le-ltb place old.settled.count (subst (λ n. old.settled.count ≤ n) (sym at) right.count))

    last : (place : ℕ) → place ≡ length old.questions.items → IsRight new place q
    last place at = record {
      placed = subst (λ t. IsPlaced t (find_of q.of)) (sym table) placed;
      none = none;
      some = subst (λ xs. 0 < length xs) (sym answers) (omega arith);
      first = only_first;
      next = λ levels answer e. absurd (no_next levels answer e);
      lasting = λ is levels answer long e. absurd (is-open place at is);
      even = λ is levels more. absurd (is-open place at is);
    }

    before : (place : ℕ) (held : Question) → Stands old place held → IsRight new place held
    before place held stands = still-right old new asked-kept table settled place held held refl refl refl (right.each place held stands)

    pub asked-right : AreRight new
    asked-right = record {
      is_table = subst (λ t. IsTable t) (sym table) right.is_table;
      count = subst (λ (s : Settled). s.count ≤ length new.questions.items) (sym settled) (longer (sym (ap length questions)) right.count);
      each = λ place held stands. by_place place held (front_or_last old.questions.items q held place (sym (ap (λ xs. slice_get xs place) questions) ∙ stands));
    }
      where
        longer : length (old.questions.items ++ q ∷ []) ≡ length new.questions.items → old.settled.count ≤ length old.questions.items → old.settled.count ≤ length new.questions.items
        longer e h = let one = length-append old.questions.items (q ∷ []) in omega (arith, e, h, one)

        by_place : (place : ℕ) (held : Question) → (slice_get old.questions.items place ≡ Some held) ⊎ ((place ≡ length old.questions.items) × (q ≡ held)) → IsRight new place held
        by_place place held (inl is) = before place held is
        by_place place held (inr at) = subst (IsRight new place) at.1 (last place at.0)

-- ---- nothing is asked

module _ (old new : MemberTypes) (right : AreRight old) (table : new.table.now ≡ old.table.now) (settled : new.settled ≡ old.settled) (questions : new.questions.items ≡ old.questions.items) where
  same-kept : AreKept old new
  same-kept place held stands = record {
    now = held;
    stands = ap (λ xs. slice_get xs place) questions ∙ stands;
    of = refl;
    name = refl;
    answers = λ levels answer e. ap (λ (s : Settled). answer_of held (ltb place s.count) levels) settled ∙ e;
  }

  pub same-right : AreRight new
  same-right = record {
    is_table = subst (λ t. IsTable t) (sym table) right.is_table;
    count = subst (λ (s : Settled). s.count ≤ length new.questions.items) (sym settled) (subst (λ xs. old.settled.count ≤ length xs) (sym questions) right.count);
    each = λ place held stands. still-right old new same-kept table settled place held held refl refl refl (right.each place held (sym (ap (λ xs. slice_get xs place) questions) ∙ stands));
  }

-- ---- a question stands in the place of another

module _ (old new : MemberTypes) (place : ℕ) (q more : Question) (table : new.table.now ≡ old.table.now) (settled : new.settled ≡ old.settled) (stands : Stands old place q) (questions : new.questions.items ≡ set old.questions.items place more) where
  more-stands : Stands new place more
  more-stands = ap (λ xs. slice_get xs place) questions ∙ set_get old.questions.items more q place stands

  others-stand : (other : ℕ) → (place ≡ other → ⊥) → slice_get new.questions.items other ≡ slice_get old.questions.items other
  others-stand other apart = ap (λ xs. slice_get xs other) questions ∙ other_get old.questions.items more place other apart

  -- where what was known of it still is
  replaced-kept : IsKept old new place q → AreKept old new
  replaced-kept kept other held is = by_place (same_place place other)
    where
      by_place : (place ≡ other) ⊎ (place ≡ other → ⊥) → IsKept old new other held
      by_place (inr apart) = record {
        now = held;
        stands = others-stand other apart ∙ is;
        of = refl;
        name = refl;
        answers = λ levels answer e. ap (λ (s : Settled). answer_of held (ltb other s.count) levels) settled ∙ e;
      }
      by_place (inl here) =
          let same : q ≡ held = some_is q held (sym stands ∙ ap (slice_get old.questions.items) here ∙ is) in
          subst (λ o. IsKept old new o held) here (subst (IsKept old new place) same kept)

  replaced-right : AreRight old → IsKept old new place q → IsRight new place more → AreRight new
  replaced-right right kept here = record {
    is_table = subst (λ t. IsTable t) (sym table) right.is_table;
    count = subst (λ (s : Settled). s.count ≤ length new.questions.items) (sym settled) (subst (λ n. old.settled.count ≤ n) (sym (ap length questions ∙ length-set old.questions.items place more)) right.count);
    each = λ other held is. by_place other held is (same_place place other);
  }
    where
      by_place : (other : ℕ) (held : Question) → Stands new other held → (place ≡ other) ⊎ (place ≡ other → ⊥) → IsRight new other held
      by_place other held is (inl at) =
          subst (λ o. IsRight new o held) at (subst (IsRight new place) (some_is more held (sym more-stands ∙ ap (slice_get new.questions.items) at ∙ is)) here)
      by_place other held is (inr apart) =
          still-right old new (replaced-kept kept) table settled other held held refl refl refl (right.each other held (sym (others-stand other apart) ∙ is))

-- ---- a question is not answered

module _ (old new : MemberTypes) (place : ℕ) (q more : Question) (right : AreRight old) (table : new.table.now ≡ old.table.now) (settled : new.settled ≡ old.settled) (stands : Stands old place q) (questions : new.questions.items ≡ set old.questions.items place more) (of : find_of more.of ≡ find_of q.of) (name : string_bytes more.name ≡ string_bytes q.name) (answers : more.answers.items ≡ q.answers.items) where
  unanswered-kept : IsKept old new place q
  unanswered-kept = record {
    now = more;
    stands = more-stands old new place q more table settled stands questions;
    of = of;
    name = name;
    answers = λ levels answer e.
        (λ i. option_or (slice_get (answers i) levels) (if ltb place (settled i).count then slice_get (answers i) (length (answers i) - 1) else None)) ∙ e;
  }

  pub unanswered-right : AreRight new
  unanswered-right =
      replaced-right old new place q more table settled stands questions right unanswered-kept
      (still-right old new (replaced-kept old new place q more table settled stands questions unanswered-kept) table settled place q more of name answers (right.each place q stands))

-- ---- a question is answered

module _ (old new : MemberTypes) (place : ℕ) (q more : Question) (found : Finds) (right : AreRight old) (table : new.table.now ≡ old.table.now) (settled : new.settled ≡ old.settled) (stands : Stands old place q) (open_place : old.settled.count ≤ place) (questions : new.questions.items ≡ set old.questions.items place more) (of : find_of more.of ≡ find_of q.of) (name : string_bytes more.name ≡ string_bytes q.name) (answers : more.answers.items ≡ q.answers.items ++ found ∷ []) (next : IsNextAnswer old place found) where
  is-unsettled : (m : MemberTypes) → m.settled ≡ old.settled → is_settled m place ≡ false
  is-unsettled m same = ap (λ (s : Settled). ltb place s.count) same ∙ le-ltb place old.settled.count open_place

  or_none : {A : Type 0} (o : Option A) → option_or o None ≡ o
  or_none None = refl
  or_none (Some x) = refl

  -- an answer that was known is behind none of the new ones
  more-answers : (levels : ℕ) (answer : Finds) → answer_of q (is_settled old place) levels ≡ Some answer → answer_of more (is_settled new place) levels ≡ Some answer
  more-answers levels answer e =
      ap (λ b. answer_of more b levels) (is-unsettled new settled)
      ∙ or_none (slice_get more.answers.items levels)
      ∙ ap (λ xs. slice_get xs levels) answers
      ∙ front_get q.answers.items found answer levels (sym (or_none (slice_get q.answers.items levels)) ∙ sym (ap (λ b. answer_of q b levels) (is-unsettled old refl)) ∙ e)

  answered-here : IsKept old new place q
  answered-here = record { now = more; stands = more-stands old new place q more table settled stands questions; of = of; name = name; answers = more-answers }

  answered-kept : AreKept old new
  answered-kept = replaced-kept old new place q more table settled stands questions answered-here

  here-right : IsRight old place q
  here-right = right.each place q stands

  last-follows : (levels : ℕ) → suc levels ≡ length q.answers.items → Follows new levels more (finds_of found)
  last-follows levels at = follows-on old new answered-kept table levels q more (finds_of found) of name (next q levels stands (sym at))

  first : (answer : Finds) → slice_get more.answers.items 0 ≡ Some answer → finds_of answer ≡ Nothing
  first answer e = by_front (front_or_last q.answers.items found answer 0 (sym (ap (λ xs. slice_get xs 0) answers) ∙ e))
    where
      by_front : (slice_get q.answers.items 0 ≡ Some answer) ⊎ ((0 ≡ length q.answers.items) × (found ≡ answer)) → finds_of answer ≡ Nothing
      by_front (inl is) = here-right.first answer is
      by_front (inr at) = let some = here-right.some in absurd (omega (arith, some, at.0))

  following : (levels : ℕ) (answer : Finds) → slice_get more.answers.items (suc levels) ≡ Some answer → Follows new levels more (finds_of answer)
  following levels answer e = by_front (front_or_last q.answers.items found answer (suc levels) (sym (ap (λ xs. slice_get xs (suc levels)) answers) ∙ e))
    where
      by_front : (slice_get q.answers.items (suc levels) ≡ Some answer) ⊎ ((suc levels ≡ length q.answers.items) × (found ≡ answer)) → Follows new levels more (finds_of answer)
      by_front (inl is) = follows-on old new answered-kept table levels q more (finds_of answer) of name (here-right.next levels answer is)
      by_front (inr at) = subst (λ x. Follows new levels more (finds_of x)) at.1 (last-follows levels at.0)

  more-right : IsRight new place more
  more-right = record {
    placed = subst (λ t. IsPlaced t (find_of more.of)) (sym table) (subst (IsPlaced old.table.now) (sym of) here-right.placed);
    none = (λ i. declared_types (of i) (name i)) ∙ here-right.none;
    some = subst (λ xs. 0 < length xs) (sym answers) (let one = length-append q.answers.items (found ∷ []) in omega (arith, one));
    first = first;
    next = following;
    lasting = λ is levels answer long e. absurd (not_true (is_settled new place) is (is-unsettled new settled));
    even = λ is levels more. absurd (not_true (is_settled new place) is (is-unsettled new settled));
  }

  pub answered-right : AreRight new
  answered-right = replaced-right old new place q more table settled stands questions right answered-here more-right
