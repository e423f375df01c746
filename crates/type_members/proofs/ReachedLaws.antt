-- What is reached by steps: a test that holds behind each step holds of all of it, and one step more is reached too.
use Rattle.std.proofs.Common.{◌≡◌, ℕ, ◌+◌, ◌-◌, ◌≤◌, zero, suc, Bool, true, false, ◌&&◌, ◌||◌, List, [], ◌∷◌, refl, sym, ap, ◌∙◌, subst, arith}
use Rattle.std.proofs.lemmas.Bool.{false≢true}
use Rattle.std.proofs.lemmas.Slice.Eq.{bytes_eq-Decides}
use Rattle.std.specs.List.{list_any}
use Rattle.std.specs.Str.{bytes_eq}
use Rattle.apt_base.specs.Elements.{same_element}
use Rattle.apt_base.specs.declared.element.ElementRef.{ElementRef}
use Rattle.element_table.specs.TypeTable.{TypeTable}
use Rattle.type_mirror.proofs.Replacements.{same_element-true}
use Rattle.type_members.specs.Reached.{steps_from, reached_within, IsReached, most_reached, is_reached}
use Rattle.type_members.specs.Gathered.{is_among, ClosedTestsHold, StepsReach}

pub itself : (at : ElementRef) → same_element at at ≡ true
itself at =
    let unit : bytes_eq at.unit at.unit ≡ true = (bytes_eq-Decides at.unit at.unit).1 refl in
    let path : bytes_eq at.path at.path ≡ true = (bytes_eq-Decides at.path at.path).1 refl in
    (λ i. unit i && bytes_eq at.path at.path) ∙ path

pub flipped : (one other : ElementRef) → same_element one other ≡ true → same_element other one ≡ true
flipped one other same =
    let S : ElementRef → Type 0 = λ x. same_element x one ≡ true in
    subst S (same_element-true one other same) (itself one)

pub or_last : (a b : Bool) → b ≡ true → (a || b) ≡ true
or_last true b e = refl
or_last false b e = e

pub or_first : (a b : Bool) → a ≡ true → (a || b) ≡ true
or_first a b e = ap (λ x. x || b) e

any_more : {A : Type 0} (f g : A → Bool) → ((x : A) → f x ≡ true → g x ≡ true) → (xs : List A) → list_any f xs ≡ true → list_any g xs ≡ true
any_more f g more [] e = absurd (false≢true e)
any_more f g more (x ∷ xs) e = by (f x) refl e (any_more f g more xs)
  where
    by : (b : Bool) → f x ≡ b → (b || list_any f xs) ≡ true → (list_any f xs ≡ true → list_any g xs ≡ true) → (g x || list_any g xs) ≡ true
    by true is e next = or_first (g x) (list_any g xs) (more x is)
    by false is e next = or_last (g x) (list_any g xs) (next e)

-- one of a list passes a test, and each of it that does leads to the end
one_leads : (f : ElementRef → Bool) (R : Type 0) (xs : List ElementRef) → ((x : ElementRef) → is_among xs x ≡ true → f x ≡ true → R) → list_any f xs ≡ true → R
one_leads f R [] leads e = absurd (false≢true e)
one_leads f R (x ∷ xs) leads e = by (f x) refl e (one_leads f R xs (λ y among. leads y (or_last (same_element y x) (is_among xs y) among)))
  where
    by : (b : Bool) → f x ≡ b → (b || list_any f xs) ≡ true → (list_any f xs ≡ true → R) → R
    by true is e next = leads x (or_first (same_element x x) (is_among xs x) (itself x)) is
    by false is e next = next e

-- ---- a closed test

module _ (table : TypeTable) (test : ElementRef → Bool) (to : ElementRef)
    (closed : (element next : ElementRef) → test element ≡ true → is_among (steps_from table element) next ≡ true → test next ≡ true) where
  at_end : (from : ElementRef) → test from ≡ true → same_element from to ≡ true → test to ≡ true
  at_end from passes same = let S : ElementRef → Type 0 = λ e. test e ≡ true in subst S (same_element-true from to same) passes

  held : (n : ℕ) (from : ElementRef) → test from ≡ true → reached_within table n from to ≡ true → test to ≡ true
  unfolding reached_within
  held zero from passes reached = at_end from passes reached
  held (suc n) from passes reached = by (same_element from to) refl reached (held n)
    where
      by : (b : Bool) → same_element from to ≡ b → (b || list_any (λ next. reached_within table n next to) (steps_from table from)) ≡ true
          → ((e : ElementRef) → test e ≡ true → reached_within table n e to ≡ true → test to ≡ true) → test to ≡ true
      by true is reached next = at_end from passes is
      by false is reached next =
          one_leads (λ e. reached_within table n e to) (test to ≡ true) (steps_from table from)
          (λ e among reached. next e (closed from e passes among) reached) reached

pub closed_tests_hold : ClosedTestsHold
closed_tests_hold table test from to closed passes reached = held table test to closed reached.0 from passes reached.1

-- ---- one step more

module _ (table : TypeTable) (e next : ElementRef) (step : is_among (steps_from table e) next ≡ true) where
  starts : (n : ℕ) (x : ElementRef) → same_element next x ≡ true → reached_within table n x next ≡ true
  unfolding reached_within
  starts zero x same = flipped next x same
  starts (suc n) x same = or_first (same_element x next) _ (flipped next x same)

  from_there : (n : ℕ) → list_any (λ x. reached_within table n x next) (steps_from table e) ≡ true
  from_there n = any_more (same_element next) (λ x. reached_within table n x next) (starts n) (steps_from table e) step

  from_same : (n : ℕ) (from : ElementRef) → same_element from e ≡ true → list_any (λ x. reached_within table n x next) (steps_from table from) ≡ true
  from_same n from same =
      let S : ElementRef → Type 0 = λ z. list_any (λ x. reached_within table n x next) (steps_from table z) ≡ true in
      subst S (sym (same_element-true from e same)) (from_there n)

  further_on : (n : ℕ) (from : ElementRef) → reached_within table n from e ≡ true → reached_within table (suc n) from next ≡ true
  unfolding reached_within
  further_on zero from reached = or_last (same_element from next) _ (from_same zero from reached)
  further_on (suc n) from reached = or_last (same_element from next) _ (by (same_element from e) refl reached (further_on n))
    where
      by : (b : Bool) → same_element from e ≡ b → (b || list_any (λ x. reached_within table n x e) (steps_from table from)) ≡ true
          → ((x : ElementRef) → reached_within table n x e ≡ true → reached_within table (suc n) x next ≡ true)
          → list_any (λ x. reached_within table (suc n) x next) (steps_from table from) ≡ true
      by true is reached more = from_same (suc n) from is
      by false is reached more =
          any_more (λ x. reached_within table n x e) (λ x. reached_within table (suc n) x next) more (steps_from table from) reached

-- one step further from what is reached by so many
pub steps_reach : StepsReach
steps_reach table from e next n reached step =
    let same : suc n ≡ n + 1 = omega arith in
    subst (λ (k : ℕ). reached_within table k from next ≡ true) same (further_on table e next step n from reached)

-- ---- more steps

module _ (table : TypeTable) (to : ElementRef) where
  one_more : (n : ℕ) (from : ElementRef) → reached_within table n from to ≡ true → reached_within table (suc n) from to ≡ true
  unfolding reached_within
  one_more zero from reached = or_first (same_element from to) _ reached
  one_more (suc n) from reached = by (same_element from to) refl reached (one_more n)
    where
      by : (b : Bool) → same_element from to ≡ b → (b || list_any (λ x. reached_within table n x to) (steps_from table from)) ≡ true
          → ((x : ElementRef) → reached_within table n x to ≡ true → reached_within table (suc n) x to ≡ true)
          → (same_element from to || list_any (λ x. reached_within table (suc n) x to) (steps_from table from)) ≡ true
      by true is reached more = or_first (same_element from to) _ is
      by false is reached more =
          or_last (same_element from to) _
          (any_more (λ x. reached_within table n x to) (λ x. reached_within table (suc n) x to) more (steps_from table from) reached)

  so_many_more : (more n : ℕ) (from : ElementRef) → reached_within table n from to ≡ true → reached_within table (more + n) from to ≡ true
  so_many_more zero n from reached =
      let same : n ≡ 0 + n = omega arith in
      subst (λ (k : ℕ). reached_within table k from to ≡ true) same reached
  so_many_more (suc more) n from reached =
      let same : suc (more + n) ≡ suc more + n = omega arith in
      subst (λ (k : ℕ). reached_within table k from to ≡ true) same (one_more (more + n) from (so_many_more more n from reached))

  -- what is reached by some steps is reached by more
  pub with_more : (n m : ℕ) (from : ElementRef) → n ≤ m → reached_within table n from to ≡ true → reached_within table m from to ≡ true
  with_more n m from less reached =
      let same : m - n + n ≡ m = omega (arith, less) in
      subst (λ (k : ℕ). reached_within table k from to ≡ true) same (so_many_more (m - n) n from reached)

  -- ---- the test

  pub test_true : (n : ℕ) (from : ElementRef) → n ≤ most_reached → reached_within table n from to ≡ true → true ≡ is_reached table from to
  unfolding is_reached
  test_true n from less reached = sym (with_more n most_reached from less reached)

  pub test_false : (from : ElementRef) → (IsReached table from to → ⊥) → false ≡ is_reached table from to
  unfolding is_reached
  test_false from not = by (reached_within table most_reached from to) refl
    where
      by : (b : Bool) → reached_within table most_reached from to ≡ b → false ≡ b
      by true is = absurd (not (most_reached, is))
      by false is = refl
