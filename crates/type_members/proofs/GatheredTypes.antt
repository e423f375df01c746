-- How the types that are reached are gathered: elements are added behind those that are there, and once all were looked at nothing more is reached.
use Rattle.std.proofs.Common.{◌≡◌, ◌↔◌, ℕ, ◌+◌, ◌<◌, ◌≤◌, Bool, true, false, ◌||◌, List, [], ◌∷◌, ◌++◌, length, get_or, take, drop, map, Option, None, Some, eqb, refl, sym, ap, ◌∙◌, subst, arith, if◌then◌else◌}
use Rattle.std.proofs.lemmas.Bool.{eqb-true, false≢true}
use Rattle.std.proofs.lemmas.List.{append-nil, map-append, length-map, take_all, take-append-le, take-append-drop}
use Rattle.std.proofs.lemmas.List.Folds.{list_any-append, list_any_at}
use Rattle.std.proofs.Math.ListN.{get_or-map}
use Rattle.std.specs.Prelude.{IsTrue}
use Rattle.std.specs.List.{AllByRecursion, list_any, cons_option}
use Rattle.apt_base.specs.Elements.{same_element}
use Rattle.apt_base.specs.declared.element.ElementRef.{ElementRef}
use Rattle.element_table.specs.TypeTable.{TypeTable}
use Rattle.type_mirror.specs.declared.mirror.Mirror.{Mirror}
use Rattle.type_mirror.proofs.Replacements.{same_element-true}
use Rattle.type_layers.specs.Layers.{Declared, mirror_of, declared_mirror}
use Rattle.type_layers.proofs.LayerLaws.{layer-mirror_of}
use Rattle.type_elements.specs.MemberElements.{class_element, class_elements, element_in, same_class}
use Rattle.type_numbers.specs.Numbers.{at, IsKnown, AreKnown, Stands, AllStand, Grows}
use Rattle.type_numbers.proofs.LayerMaps.{all_split, all-at}
use Rattle.type_numbers.proofs.NumberLaws.{grown-all_known, grown-types}
use Rattle.type_members.specs.Gathered.{is_among, has_at, Adds, AddsEach, AddsSteps, types_of, IsGathering}
use Rattle.type_members.specs.MemberOf.{is_of}
use Rattle.type_members.specs.Once.{with_new}
use Rattle.type_members.specs.Reached.{types_from, steps_from, reached_within, IsReached, most_reached, is_reached}
use Rattle.type_members.proofs.NextLevels.{new_known, take_more}
use Rattle.type_members.proofs.ReachedLaws.{closed_tests_hold, steps_reach, with_more, test_true, test_false, itself, flipped, or_first, or_last}

-- ---- lists

all_taken : {M : Type 0} (P : M → Type 0) (n : ℕ) (xs : List M) → AllByRecursion P xs → AllByRecursion P (take n xs)
all_taken P n xs all = (all_split P (take n xs) (drop n xs) (subst (AllByRecursion P) (sym (take-append-drop n xs)) all)).0

-- ---- tests

or_none : (a : Bool) → (a || false) ≡ a
or_none true = refl
or_none false = refl

or_cases : (a b : Bool) (R : Type 0) → (a || b) ≡ true → (a ≡ true → R) → (b ≡ true → R) → R
or_cases true b R e one other = one refl
or_cases false b R e one other = other e

-- ---- class types of an element

-- a class type without arguments is of its element
pub bare_element : (element : ElementRef) → class_element (declared_mirror element None []) ≡ Some element
unfolding mirror_of
bare_element element = ap element_in (layer-mirror_of (Declared element None []))

of_same : (element : ElementRef) (one other : Mirror) → class_element one ≡ class_element other → is_of element one ≡ is_of element other
of_same element one other e = ap (same_class (Some element)) e

-- which element it is of
of_element : (element is : ElementRef) (m : Mirror) → class_element m ≡ Some is → is_of element m ≡ same_element element is
of_element element is m e = ap (same_class (Some element)) e

of_none : (element : ElementRef) (m : Mirror) → class_element m ≡ None → is_of element m ≡ false
of_none element m e = ap (same_class (Some element)) e

-- the elements of class types, one after another
among_types : (element : ElementRef) (types : List Mirror) → list_any (is_of element) types ≡ is_among (class_elements types) element
among_types element [] = refl
among_types element (m ∷ types) = by (class_element m) (among_types element types)
  where
    by : (o : Option ElementRef) → list_any (is_of element) types ≡ is_among (class_elements types) element
        → (same_class (Some element) o || list_any (is_of element) types) ≡ is_among (cons_option o (class_elements types)) element
    by None e = e
    by (Some is) e = ap (λ b. same_element element is || b) e

-- one step from a type
steps_of : (table : TypeTable) (from element : ElementRef) → list_any (is_of element) (types_from table from) ≡ is_among (steps_from table from) element
unfolding steps_from
steps_of table from element = among_types element (types_from table from)

-- ---- adding

has_grown : (t t' : List Mirror) (numbers : List ℕ) (element : ElementRef) → Grows t t' → AreKnown t numbers → has_at t' numbers element ≡ has_at t numbers element
has_grown t t' numbers element g all = ap (list_any (is_of element)) (grown-types t t' numbers g all)

has_joined : (t : List Mirror) (ones others : List ℕ) (element : ElementRef) → has_at t (ones ++ others) element ≡ (has_at t ones element || has_at t others element)
has_joined t ones others element =
    ap (list_any (is_of element)) (map-append (at t) ones others) ∙ list_any-append (is_of element) (map (at t) ones) (map (at t) others)

-- a number that is there already adds nothing
has_already : (t : List Mirror) (numbers : List ℕ) (n : ℕ) (element : ElementRef) → list_any (eqb n) numbers ≡ true
    → has_at t numbers element ≡ (has_at t numbers element || is_of element (at t n))
has_already t [] n element e = absurd (false≢true e)
has_already t (x ∷ numbers) n element e = by (eqb n x) refl e (has_already t numbers n element)
  where
    twice : (a b : Bool) → (a || b) ≡ ((a || b) || a)
    twice true b = refl
    twice false true = refl
    twice false false = refl

    last : (a b c : Bool) → b ≡ (b || c) → (a || b) ≡ ((a || b) || c)
    last true b c e = refl
    last false b c e = e

    by : (b : Bool) → eqb n x ≡ b → (b || list_any (eqb n) numbers) ≡ true
        → (list_any (eqb n) numbers ≡ true → has_at t numbers element ≡ (has_at t numbers element || is_of element (at t n)))
        → (is_of element (at t x) || has_at t numbers element) ≡ ((is_of element (at t x) || has_at t numbers element) || is_of element (at t n))
    by true is e next =
        let same : is_of element (at t x) ≡ is_of element (at t n) = ap (λ (k : ℕ). is_of element (at t k)) (sym (eqb-true n x is)) in
        twice (is_of element (at t x)) (has_at t numbers element) ∙ ap (λ b. (is_of element (at t x) || has_at t numbers element) || b) same
    by false is e next = last (is_of element (at t x)) (has_at t numbers element) (is_of element (at t n)) (next e)

has_new : (t : List Mirror) (numbers : List ℕ) (n : ℕ) (element : ElementRef) → has_at t (with_new numbers n) element ≡ (has_at t numbers element || is_of element (at t n))
has_new t numbers n element = by (list_any (eqb n) numbers) refl
  where
    by : (b : Bool) → list_any (eqb n) numbers ≡ b → has_at t (if b then numbers else numbers ++ n ∷ []) element ≡ (has_at t numbers element || is_of element (at t n))
    by true e = has_already t numbers n element e
    by false e = has_joined t numbers (n ∷ []) element ∙ ap (λ b. has_at t numbers element || b) (or_none (is_of element (at t n)))

new_behind : (numbers : List ℕ) (n : ℕ) → (more : List ℕ) × (with_new numbers n ≡ numbers ++ more)
new_behind numbers n = by (list_any (eqb n) numbers)
  where
    by : (b : Bool) → (more : List ℕ) × ((if b then numbers else numbers ++ n ∷ []) ≡ numbers ++ more)
    by true = ([], sym (append-nil numbers))
    by false = (n ∷ [], refl)

-- what is of no element adds nothing
pub adds_none : (t : List Mirror) (numbers : List ℕ) (m : Mirror) → AreKnown t numbers → class_element m ≡ None → Adds t t numbers numbers (m ∷ [])
adds_none t numbers m all none = record {
  known = all;
  more = [];
  behind = sym (append-nil numbers);
  has = λ element. sym (ap (λ b. has_at t numbers element || (b || false)) (of_none element m none) ∙ or_none (has_at t numbers element));
}

-- a class type of the element is added
pub adds_class : (t t' : List Mirror) (numbers longer : List ℕ) (m : Mirror) (element : ElementRef) (n : ℕ) → AreKnown t numbers → Grows t t' → class_element m ≡ Some element
    → Stands t' n (declared_mirror element None []) → longer ≡ with_new numbers n → Adds t t' numbers longer (m ∷ [])
adds_class t t' numbers longer m is n all g of stands e = record {
  known = subst (AreKnown t') (sym e) (new_known t' numbers n (grown-all_known t t' numbers g all) stands.known);
  more = (new_behind numbers n).0;
  behind = e ∙ (new_behind numbers n).1;
  has = λ element.
      ap (λ (ns : List ℕ). has_at t' ns element) e ∙ has_new t' numbers n element
      ∙ (λ i. has_grown t t' numbers element g all i || of_same element (at t' n) m (ap class_element stands.type ∙ bare_element is ∙ sym of) i)
      ∙ ap (λ b. has_at t numbers element || b) (sym (or_none (is_of element m)));
}

-- ---- a step

pub adds_steps : (table : TypeTable) (t t' t'' : List Mirror) (numbers longer next : List ℕ) (number : ℕ) (element : ElementRef) → class_element (at t number) ≡ Some element
    → Grows t t' → AreKnown t numbers → AllStand t' next (types_from table element) → AddsEach t' t'' numbers longer next → AddsSteps table t t'' numbers longer number
adds_steps table t t' t'' numbers longer next number is of g all stand adds = record {
  known = adds.known;
  more = adds.more;
  behind = adds.behind;
  has = λ element.
      adds.has element
      ∙ (λ i. has_grown t t' numbers element g all i || list_any (is_of element) ((stand.types ∙ sym (ap (types_of table) of)) i));
}

-- ---- gathering

at_once : (table : TypeTable) (from element : ElementRef) → same_element from element ≡ true → reached_within table 0 from element ≡ true
unfolding reached_within
at_once table from element same = same

module _ (table : TypeTable) (from to : ElementRef) where
  pub gathers_first : (t : List Mirror) (n : ℕ) (numbers : List ℕ) → Stands t n (declared_mirror from None []) → numbers ≡ n ∷ [] → IsGathering table from to t numbers 0
  gathers_first t n numbers stands e =
      let one : (element : ElementRef) → has_at t numbers element ≡ same_element element from =
      λ element. ap (λ (ns : List ℕ). has_at t ns element) e
      ∙ or_none (is_of element (at t n))
      ∙ of_element element from (at t n) (ap class_element stands.type ∙ bare_element from) in
      record {
        known = subst (AreKnown t) (sym e) (stands.known, tt);
        itself = one from ∙ itself from;
        reached = λ element has. at_once table from element (flipped element from (sym (one element) ∙ has));
        closed = λ element next has step. absurd (false≢true has);
        missed = refl;
      }

  module _ (t : List Mirror) (numbers : List ℕ) (done : ℕ) (so_far : IsGathering table from to t numbers done) (less : done < length numbers) where
    abbrev number : ℕ
    number = get_or numbers done 0

    pub number_known : IsKnown t number
    number_known = all-at (IsKnown t) numbers done 0 so_far.known less

    front : take (done + 1) numbers ≡ take done numbers ++ number ∷ []
    front = take_more numbers done less

    -- it is one of the list
    has_one : (element : ElementRef) → is_of element (at t number) ≡ true → has_at t numbers element ≡ true
    has_one element of =
        let same : get_or (map (at t) numbers) done (at t 0) ≡ at t number = get_or-map (at t) numbers done 0 in
        list_any_at (is_of element) (map (at t) numbers) done (at t 0) (subst (λ (n : ℕ). done < n) (sym (length-map numbers (at t))) less) (ap (is_of element) same ∙ of)

    -- what is looked for is found
    pub finds : is_of to (at t number) ≡ true → reached_within table done from to ≡ true
    finds of = so_far.reached to (has_one to of)

    module _ (t' : List Mirror) (longer : List ℕ) (g : Grows t t') (adds : AddsSteps table t t' numbers longer number) where
      has_before : (element : ElementRef) → has_at t numbers element ≡ true → has_at t' longer element ≡ true
      has_before element has = adds.has element ∙ or_first _ _ has

      steps_in : (element next : ElementRef) → is_of element (at t number) ≡ true → is_among (steps_from table element) next ≡ true → list_any (is_of next) (types_of table (class_element (at t number))) ≡ true
      steps_in element next of step = by (class_element (at t number)) of
        where
          by : (o : Option ElementRef) → same_class (Some element) o ≡ true → list_any (is_of next) (types_of table o) ≡ true
          by None of = absurd (false≢true of)
          by (Some is) of = steps_of table is next ∙ ap (λ (e : ElementRef). is_among (steps_from table e) next) (sym (same_element-true element is of)) ∙ step

      -- an element to which a step leads is reached
      step_reached : (element : ElementRef) → list_any (is_of element) (types_of table (class_element (at t number))) ≡ true
          → reached_within table (done + 1) from element ≡ true
      step_reached element has = by (class_element (at t number)) refl has
        where
          by : (o : Option ElementRef) → class_element (at t number) ≡ o → list_any (is_of element) (types_of table o) ≡ true
              → reached_within table (done + 1) from element ≡ true
          by None e has = absurd (false≢true has)
          by (Some is) e has =
              steps_reach table from is element done (so_far.reached is (has_one is (of_element is is (at t number) e ∙ itself is))) (sym (steps_of table is element) ∙ has)

      same_front : take (done + 1) longer ≡ take (done + 1) numbers
      same_front = ap (take (done + 1)) adds.behind ∙ take-append-le (done + 1) numbers adds.more (omega (arith, less))

      front_known : AreKnown t (take (done + 1) numbers)
      front_known = all_taken (IsKnown t) (done + 1) numbers so_far.known

      has_front : (element : ElementRef) → has_at t' (take (done + 1) longer) element ≡ (has_at t (take done numbers) element || is_of element (at t number))
      has_front element =
          ap (λ (ns : List ℕ). has_at t' ns element) same_front ∙ has_grown t t' (take (done + 1) numbers) element g front_known
          ∙ ap (λ (ns : List ℕ). has_at t ns element) front ∙ has_joined t (take done numbers) (number ∷ []) element
          ∙ ap (λ b. has_at t (take done numbers) element || b) (or_none (is_of element (at t number)))

      pub gathers_next : is_of to (at t number) ≡ false → IsGathering table from to t' longer (done + 1)
      gathers_next missed = record {
        known = adds.known;
        itself = has_before from so_far.itself;
        reached = λ element has.
            or_cases (has_at t numbers element) (list_any (is_of element) (types_of table (class_element (at t number)))) (reached_within table (done + 1) from element ≡ true)
            (sym (adds.has element) ∙ has) (λ before. with_more table element done (done + 1) from (omega arith) (so_far.reached element before)) (step_reached element);
        closed = λ element next has step.
            or_cases (has_at t (take done numbers) element) (is_of element (at t number)) (has_at t' longer next ≡ true) (sym (has_front element) ∙ has)
            (λ before. has_before next (so_far.closed element next before step))
            (λ here. adds.has next ∙ or_last (has_at t numbers next) _ (steps_in element next here step));
        missed = has_front to ∙ (λ i. so_far.missed i || missed i);
      }

  -- all were looked at
  pub gathered_all : (t : List Mirror) (numbers : List ℕ) (done : ℕ) → IsGathering table from to t numbers done → length numbers ≤ done → IsReached table from to → ⊥
  gathered_all t numbers done so_far all reached =
      let whole : take done numbers ≡ numbers = take_all done numbers all in
      let H : List ℕ → Type 0 = λ ns. (element next : ElementRef) → has_at t ns element ≡ true → is_among (steps_from table element) next ≡ true → has_at t numbers next ≡ true in
      let held = closed_tests_hold table (has_at t numbers) from to (subst H whole so_far.closed) so_far.itself reached in
      let lost : has_at t numbers to ≡ false = ap (λ (ns : List ℕ). has_at t ns to) (sym whole) ∙ so_far.missed in
      false≢true (sym lost ∙ held)

  -- ---- the answer

  pub answers_absent : (t : List Mirror) (numbers : List ℕ) (done : ℕ) → IsGathering table from to t numbers done → length numbers ≤ done
      → IsTrue false ↔ IsReached table from to
  answers_absent t numbers done so_far all = (λ e. absurd (false≢true e), λ reached. absurd (gathered_all t numbers done so_far all reached))

  pub answers_found : (t : List Mirror) (numbers : List ℕ) (done : ℕ) → IsGathering table from to t numbers done → done < length numbers
      → is_of to (at t (get_or numbers done 0)) ≡ true → IsTrue true ↔ IsReached table from to
  answers_found t numbers done so_far less of = (λ e. (done, finds t numbers done so_far less of), λ reached. refl)

  -- ---- the same as a test

  pub tests_absent : (t : List Mirror) (numbers : List ℕ) (done : ℕ) → IsGathering table from to t numbers done → length numbers ≤ done
      → false ≡ is_reached table from to
  tests_absent t numbers done so_far all = test_false table to from (gathered_all t numbers done so_far all)

  pub tests_found : (t : List Mirror) (numbers : List ℕ) (done : ℕ) → IsGathering table from to t numbers done → done < length numbers → done ≤ most_reached
      → is_of to (at t (get_or numbers done 0)) ≡ true → true ≡ is_reached table from to
  tests_found t numbers done so_far less few of = test_true table to done from few (finds t numbers done so_far less of)
