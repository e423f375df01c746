-- What a list of replacements has for a variable.
use Rattle.std.proofs.Common.{◌≡◌, ℕ, zero, suc, Bool, true, false, cond, not, ◌&&◌, ◌||◌, List, [], ◌∷◌, map, Option, Some, None, refl, sym, ap, subst, ◌∙◌}
use Rattle.std.specs.List.{IsDistinct, AllByRecursion, slice_get, find, list_any}
use Rattle.std.specs.Option.{option_map}
use Rattle.std.specs.Str.{bytes_eq}
use Rattle.std.proofs.lemmas.Map.Keys.{IsDistinct-head, IsDistinct-tail}
use Rattle.std.proofs.lemmas.Slice.Eq.{bytes_eq-Decides}
use Rattle.apt_base.specs.Elements.{same_element}
use Rattle.apt_base.proofs.FieldsLemmas.{some_is}
use Rattle.apt_base.specs.declared.element.ElementRef.{ElementRef}
use Rattle.type_mirror.specs.declared.mirror.Mirror.{Mirror}
use Rattle.type_mirror.specs.Substitution.{Replacements, AreDistinct, is_distinct, replacement}

-- both tests hold
both : (a b : Bool) → (a && b) ≡ true → (a ≡ true) × (b ≡ true)
both true b h = (refl, h)
both false b h = absurd cc

pub same_element-true : (one other : ElementRef) → same_element one other ≡ true → one ≡ other
same_element-true one other h =
    let tests = both (bytes_eq one.unit other.unit) (bytes_eq one.path other.path) h in
    let unit : one.unit ≡ other.unit = (bytes_eq-Decides one.unit other.unit).0 tests.0 in
    let path : one.path ≡ other.path = (bytes_eq-Decides one.path other.path).0 tests.1 in
    let with_unit : List ℕ → ElementRef = λ u. record { unit = u; path = one.path } in
    let with_path : List ℕ → ElementRef = λ p. record { unit = other.unit; path = p } in
    ap with_unit unit ∙ ap with_path path

-- what holds of all variables holds of the one at a place
at_place : (Q : ElementRef → Type 0) (by : Replacements) (i : ℕ) (pair : ElementRef × Mirror) → AllByRecursion Q (map (λ p. p.0) by) → slice_get by i ≡ Some pair → Q pair.0
at_place Q [] i pair all e = absurd cc
at_place Q (first ∷ others) zero pair all e = subst (λ (p : ElementRef × Mirror). Q p.0) (some_is first pair e) all.0
at_place Q (first ∷ others) (suc i) pair all e = at_place Q others i pair all.1 e

-- the pair at a place has what the list has for its variable, since no variable stands twice
pub replacement-at : (by : Replacements) (i : ℕ) (pair : ElementRef × Mirror) (element : ElementRef) → AreDistinct by → slice_get by i ≡ Some pair → same_element pair.0 element ≡ true
    → replacement by element ≡ Some pair.1
replacement-at [] i pair element distinct e h = absurd cc
replacement-at (first ∷ others) zero pair element distinct e h =
    let same : first ≡ pair = some_is first pair e in
    let here : same_element first.0 element ≡ true = subst (λ (p : ElementRef × Mirror). same_element p.0 element ≡ true) (sym same) h in
    ap (λ (b : Bool). option_map (λ (p : ElementRef × Mirror). p.1) (cond b (Some first) (find (λ p. same_element p.0 element) others))) here
    ∙ ap (λ (p : ElementRef × Mirror). Some p.1) same
replacement-at (first ∷ others) (suc i) pair element distinct e h =
    let apart = at_place (λ x. same_element first.0 x ≡ false) others i pair (IsDistinct-head same_element first.0 (map (λ p. p.0) others) distinct) e in
    let not_here : same_element first.0 element ≡ false = subst (λ (x : ElementRef). same_element first.0 x ≡ false) (same_element-true pair.0 element h) apart in
    ap (λ (b : Bool). option_map (λ (p : ElementRef × Mirror). p.1) (cond b (Some first) (find (λ p. same_element p.0 element) others))) not_here
    ∙ replacement-at others i pair element (IsDistinct-tail same_element first.0 (map (λ p. p.0) others) distinct) e h

-- ---- the test of a list

none_at : (here : Bool) (there : Bool) → not (here || there) ≡ true → (here ≡ false) × (not there ≡ true)
none_at true there h = absurd cc
none_at false there h = (refl, h)

some_at : (here : Bool) (there : Bool) → here ≡ false → not there ≡ true → not (here || there) ≡ true
some_at true there e h = absurd cc
some_at false there e h = h

none_among : (element : ElementRef) (others : Replacements) → not (list_any (λ p. same_element element p.0) others) ≡ true
    → AllByRecursion (λ x. same_element element x ≡ false) (map (λ p. p.0) others)
none_among element [] h = tt
none_among element (first ∷ others) h =
    let split = none_at (same_element element first.0) (list_any (λ (p : ElementRef × Mirror). same_element element p.0) others) h in
    (split.0, none_among element others split.1)

among_none : (element : ElementRef) (others : Replacements) → AllByRecursion (λ x. same_element element x ≡ false) (map (λ p. p.0) others)
    → not (list_any (λ p. same_element element p.0) others) ≡ true
among_none element [] all = refl
among_none element (first ∷ others) all =
    some_at (same_element element first.0) (list_any (λ (p : ElementRef × Mirror). same_element element p.0) others) all.0 (among_none element others all.1)

both_hold : (a b : Bool) → a ≡ true → b ≡ true → (a && b) ≡ true
both_hold true b p q = q
both_hold false b p q = absurd cc

pub AreDistinct-from_test : (by : Replacements) → is_distinct by ≡ true → AreDistinct by
unfolding IsDistinct
AreDistinct-from_test [] h = tt
AreDistinct-from_test (first ∷ others) h =
    let tests = both (not (list_any (λ (p : ElementRef × Mirror). same_element first.0 p.0) others)) (is_distinct others) h in
    (none_among first.0 others tests.0, AreDistinct-from_test others tests.1)

pub is_distinct-true : (by : Replacements) → AreDistinct by → is_distinct by ≡ true
is_distinct-true [] distinct = refl
is_distinct-true (first ∷ others) distinct =
    both_hold (not (list_any (λ (p : ElementRef × Mirror). same_element first.0 p.0) others)) (is_distinct others)
    (among_none first.0 others (IsDistinct-head same_element first.0 (map (λ p. p.0) others) distinct))
    (is_distinct-true others (IsDistinct-tail same_element first.0 (map (λ p. p.0) others) distinct))
