-- The table is that of the forms: each state has the forms that may go on there, and each step leaves what is left of them.
use Rattle.std.proofs.Common.{◌≡◌, ◌⊎◌, inl, inr, eqb, ◌&&◌, ℕ, zero, suc, ◌+◌, ◌*◌, ◌<◌, ◌≤◌, nat_lt, Bool, true, false, List, [], ◌∷◌, ◌++◌, map, get_or, refl, sym, ap, ◌∙◌, subst, arith, eq-eqb}
use Rattle.std.proofs.lemmas.Bool.{false≢true, cases_lt, ltb-true}
use Rattle.std.proofs.lemmas.Bool.Decides.{Decides-eqb}
use Rattle.java_tokens.specs.Forms.{Form, nothing, IsOf}
use Rattle.java_tokens.specs.Literals.{separator, word, integer, floating, character, text, text_block}
use Rattle.java_tokens.specs.declared.automaton.TheConstants.{STEPS, CLASSES}
use Rattle.java_tokens.specs.Table.{after, class_at, run}
use Rattle.java_tokens.proofs.Derive.{nullable, same, derive, same_is, nullable_is, is_nullable, derive_is, is_derive}

-- the forms by their classes
abbrev pub forms : List Form
forms = separator ∷ word ∷ integer ∷ floating ∷ character ∷ text ∷ text_block ∷ []

-- each state but the first by one that comes before it and the sort of a character that leads on from there
abbrev pairs : List (ℕ × ℕ)
pairs = (0, 0) ∷ (0, 1) ∷ (0, 4) ∷ (0, 13) ∷ (0, 14) ∷ (0, 16) ∷ (0, 18) ∷ (0, 19) ∷ (0, 21) ∷ (0, 22) ∷ (1, 0) ∷ (1, 3) ∷ (1, 4) ∷ (1, 5) ∷ (1, 6) ∷ (1, 8) ∷ (1, 10) ∷ (1, 11) ∷ (1, 14) ∷ (2, 0) ∷ (2, 11) ∷ (5, 0) ∷ (6, 16) ∷ (6, 17) ∷ (7, 0) ∷ (7, 18) ∷ (7, 20) ∷ (8, 0) ∷ (8, 20) ∷ (11, 0) ∷ (11, 11) ∷ (12, 11) ∷ (13, 0) ∷ (15, 0) ∷ (15, 15) ∷ (17, 0) ∷ (17, 14) ∷ (19, 6) ∷ (20, 0) ∷ (20, 11) ∷ (22, 0) ∷ (22, 11) ∷ (24, 17) ∷ (25, 18) ∷ (26, 18) ∷ (28, 19) ∷ (29, 0) ∷ (29, 25) ∷ (33, 0) ∷ (33, 11) ∷ (34, 0) ∷ (34, 11) ∷ (36, 0) ∷ (36, 11) ∷ (36, 14) ∷ (37, 0) ∷ (38, 0) ∷ (38, 15) ∷ (45, 21) ∷ (45, 22) ∷ (56, 0) ∷ (56, 11) ∷ (57, 0) ∷ (57, 11) ∷ (59, 18) ∷ (59, 20) ∷ (65, 18) ∷ (67, 18) ∷ []

abbrev gather : List (List Form) → List (ℕ × ℕ) → List (List Form)
gather known [] = known
gather known (p ∷ ps) = gather (known ++ map (derive p.1) (get_or known p.0 []) ∷ []) ps

-- what may go on in each state
pub residuals : List (List Form)
residuals = gather (forms ∷ []) pairs

abbrev same_all : List Form → List Form → Bool
same_all [] [] = true
same_all (f ∷ fs) (g ∷ gs) = same f g && same_all fs gs
same_all fs gs = false

abbrev residual : ℕ → List Form
residual state = get_or residuals state []

-- the steps by the sorts below one
abbrev row_fits : List (List Form) → List Form → ℕ → ℕ → Bool
row_fits all here base zero = true
row_fits all here base (suc k) = same_all (map (derive k) here) (get_or all (get_or STEPS (base + k) 0) []) && row_fits all here base k

-- the steps of the states below one
abbrev steps_fit : List (List Form) → ℕ → Bool
steps_fit all zero = true
steps_fit all (suc s) = row_fits all (get_or all s []) (s * 26) 26 && steps_fit all s

abbrev pub alike : Bool → Bool → Bool
alike true b = b
alike false true = false
alike false false = true

-- the class of a state is that of the form that may end there
abbrev class_fits : List Form → ℕ → ℕ → Bool
class_fits here class zero = true
class_fits here class (suc i) = alike (eqb class i) (nullable (get_or here i nothing)) && class_fits here class i

abbrev classes_fit : List (List Form) → ℕ → Bool
classes_fit all zero = true
classes_fit all (suc s) = class_fits (get_or all s []) (class_at s) 7 && classes_fit all s

abbrev pub all_below : ℕ → List ℕ → Bool
all_below n [] = true
all_below n (x ∷ xs) = nat_lt x n && all_below n xs

abbrev stays : ℕ → Bool
stays zero = true
stays (suc k) = eqb (after 4 k) 4 && stays k

steps_test : steps_fit residuals 69 ≡ true
unfolding residuals
steps_test = refl

classes_test : classes_fit residuals 69 ≡ true
unfolding residuals
classes_test = refl

states_test : all_below 69 STEPS ≡ true
states_test = refl

stuck_test : stays 26 ≡ true
stuck_test = refl

first_test : residual 0 ≡ forms
unfolding residuals
first_test = refl

pub both_true : (a b : Bool) → (a && b) ≡ true → (a ≡ true) × (b ≡ true)
both_true true b e = (refl, e)
both_true false b e = absurd (false≢true e)

same_all_is : (fs gs : List Form) → same_all fs gs ≡ true → fs ≡ gs
same_all_is [] [] e = refl
same_all_is [] (g ∷ gs) e = absurd (false≢true e)
same_all_is (f ∷ fs) [] e = absurd (false≢true e)
same_all_is (f ∷ fs) (g ∷ gs) e =
    let p = both_true (same f g) (same_all fs gs) e in
    ap (λ h. h ∷ fs) (same_is f g p.0) ∙ ap (λ hs. g ∷ hs) (same_all_is fs gs p.1)

row_is : (all : List (List Form)) (here : List Form) (base n k : ℕ) → row_fits all here base n ≡ true → k < n → map (derive k) here ≡ get_or all (get_or STEPS (base + k) 0) []
row_is all here base zero k e h = absurd (omega (arith, h))
row_is all here base (suc n) k e h = by_place (both_true (same_all (map (derive n) here) (get_or all (get_or STEPS (base + n) 0) [])) (row_fits all here base n) e) (λ p. row_is all here base n k p) (cases_lt k n)
  where
    by_place : (same_all (map (derive n) here) (get_or all (get_or STEPS (base + n) 0) []) ≡ true) × (row_fits all here base n ≡ true) → (row_fits all here base n ≡ true → k < n → map (derive k) here ≡ get_or all (get_or STEPS (base + k) 0) []) → (k < n) ⊎ (n ≤ k) → map (derive k) here ≡ get_or all (get_or STEPS (base + k) 0) []
    by_place p later (inl less) = later p.1 less
    by_place p later (inr more) =
        let same_place : n ≡ k = omega (arith, h, more) in
        subst (λ m. map (derive m) here ≡ get_or all (get_or STEPS (base + m) 0) []) same_place (same_all_is _ _ p.0)

steps_are : (all : List (List Form)) (n s k : ℕ) → steps_fit all n ≡ true → s < n → k < 26 → map (derive k) (get_or all s []) ≡ get_or all (after s k) []
steps_are all zero s k e h less = absurd (omega (arith, h))
steps_are all (suc n) s k e h less = by_place (both_true (row_fits all (get_or all n []) (n * 26) 26) (steps_fit all n) e) (λ p. steps_are all n s k p) (cases_lt s n)
  where
    by_place : (row_fits all (get_or all n []) (n * 26) 26 ≡ true) × (steps_fit all n ≡ true) → (steps_fit all n ≡ true → s < n → k < 26 → map (derive k) (get_or all s []) ≡ get_or all (after s k) []) → (s < n) ⊎ (n ≤ s) → map (derive k) (get_or all s []) ≡ get_or all (after s k) []
    by_place p later (inl below) = later p.1 below less
    by_place p later (inr more) =
        let same_place : n ≡ s = omega (arith, h, more) in
        subst (λ m. map (derive k) (get_or all m []) ≡ get_or all (after m k) []) same_place (row_is all (get_or all n []) (n * 26) 26 k p.0 less)

pub alike_is : (a b : Bool) → alike a b ≡ true → a ≡ b
alike_is true b e = sym e
alike_is false true e = absurd (false≢true e)
alike_is false false e = refl

class_is : (here : List Form) (class n i : ℕ) → class_fits here class n ≡ true → i < n → eqb class i ≡ nullable (get_or here i nothing)
class_is here class zero i e h = absurd (omega (arith, h))
class_is here class (suc n) i e h = by_place (both_true (alike (eqb class n) (nullable (get_or here n nothing))) (class_fits here class n) e) (λ p. class_is here class n i p) (cases_lt i n)
  where
    by_place : (alike (eqb class n) (nullable (get_or here n nothing)) ≡ true) × (class_fits here class n ≡ true) → (class_fits here class n ≡ true → i < n → eqb class i ≡ nullable (get_or here i nothing)) → (i < n) ⊎ (n ≤ i) → eqb class i ≡ nullable (get_or here i nothing)
    by_place p later (inl less) = later p.1 less
    by_place p later (inr more) =
        let same_place : n ≡ i = omega (arith, h, more) in
        subst (λ m. eqb class m ≡ nullable (get_or here m nothing)) same_place (alike_is _ _ p.0)

classes_are : (all : List (List Form)) (n s i : ℕ) → classes_fit all n ≡ true → s < n → i < 7 → eqb (class_at s) i ≡ nullable (get_or (get_or all s []) i nothing)
classes_are all zero s i e h less = absurd (omega (arith, h))
classes_are all (suc n) s i e h less = by_place (both_true (class_fits (get_or all n []) (class_at n) 7) (classes_fit all n) e) (λ p. classes_are all n s i p) (cases_lt s n)
  where
    by_place : (class_fits (get_or all n []) (class_at n) 7 ≡ true) × (classes_fit all n ≡ true) → (classes_fit all n ≡ true → s < n → i < 7 → eqb (class_at s) i ≡ nullable (get_or (get_or all s []) i nothing)) → (s < n) ⊎ (n ≤ s) → eqb (class_at s) i ≡ nullable (get_or (get_or all s []) i nothing)
    by_place p later (inl below) = later p.1 below less
    by_place p later (inr more) =
        let same_place : n ≡ s = omega (arith, h, more) in
        subst (λ m. eqb (class_at m) i ≡ nullable (get_or (get_or all m []) i nothing)) same_place (class_is (get_or all n []) (class_at n) 7 i p.0 less)

pub below_at : (n : ℕ) (xs : List ℕ) (i : ℕ) → 0 < n → all_below n xs ≡ true → get_or xs i 0 < n
below_at n [] i some e = some
below_at n (x ∷ xs) zero some e = ltb-true x n (both_true (nat_lt x n) (all_below n xs) e).0
below_at n (x ∷ xs) (suc i) some e = below_at n xs i some (both_true (nat_lt x n) (all_below n xs) e).1

classes_low : all_below 8 CLASSES ≡ true
classes_low = refl

-- a class is below 7, or it is that of no text
pub class_less : (s : ℕ) → class_at s < 8
class_less s = below_at 8 CLASSES s (omega arith) classes_low

-- there are 69 states
pub after_less : (s k : ℕ) → after s k < 69
after_less s k = below_at 69 STEPS (s * 26 + k) (omega arith) states_test

stays_at : (n k : ℕ) → stays n ≡ true → k < n → after 4 k ≡ 4
stays_at zero k e h = absurd (omega (arith, h))
stays_at (suc n) k e h = by_place (both_true (eqb (after 4 n) 4) (stays n) e) (λ p. stays_at n k p) (cases_lt k n)
  where
    by_place : (eqb (after 4 n) 4 ≡ true) × (stays n ≡ true) → (stays n ≡ true → k < n → after 4 k ≡ 4) → (k < n) ⊎ (n ≤ k) → after 4 k ≡ 4
    by_place p later (inl less) = later p.1 less
    by_place p later (inr more) =
        let same_place : n ≡ k = omega (arith, h, more) in
        subst (λ m. after 4 m ≡ 4) same_place ((Decides-eqb (after 4 n) 4).0 p.0)

-- sorts of characters
abbrev pub AreSorts : List ℕ → Type 0
AreSorts [] = Unit {0}
AreSorts (k ∷ ks) = (k < 26) × AreSorts ks

pub run-append : (s : ℕ) (a b : List ℕ) → run s (a ++ b) ≡ run (run s a) b
run-append s [] b = refl
run-append s (k ∷ a) b = run-append (after s k) a b

pub run_stuck : (ks : List ℕ) → AreSorts ks → run 4 ks ≡ 4
run_stuck [] sorts = refl
run_stuck (k ∷ ks) (less, sorts) = ap (λ s. run s ks) (stays_at 26 k stuck_test less) ∙ run_stuck ks sorts

get_derive : (k : ℕ) (fs : List Form) (i : ℕ) → get_or (map (derive k) fs) i nothing ≡ derive k (get_or fs i nothing)
get_derive k [] i = refl
get_derive k (f ∷ fs) zero = refl
get_derive k (f ∷ fs) (suc i) = get_derive k fs i

step_form : (s k i : ℕ) → s < 69 → k < 26 → derive k (get_or (residual s) i nothing) ≡ get_or (residual (after s k)) i nothing
step_form s k i h less = sym (get_derive k (residual s) i) ∙ ap (λ fs. get_or fs i nothing) (steps_are residuals 69 s k steps_test h less)

-- a text may go on in a state exactly where it leads to its class
run_from : (i s : ℕ) (ks : List ℕ) → i < 7 → s < 69 → AreSorts ks → IsOf (get_or (residual s) i nothing) ks → class_at (run s ks) ≡ i
run_from i s [] few h sorts is = (Decides-eqb (class_at s) i).0 (classes_are residuals 69 s i classes_test h few ∙ is_nullable (get_or (residual s) i nothing) is)
run_from i s (k ∷ ks) few h (less, sorts) is =
    run_from i (after s k) ks few (after_less s k) sorts (subst (λ f. IsOf f ks) (step_form s k i h less) (is_derive k (get_or (residual s) i nothing) ks is))

from_run : (i s : ℕ) (ks : List ℕ) → i < 7 → s < 69 → AreSorts ks → class_at (run s ks) ≡ i → IsOf (get_or (residual s) i nothing) ks
from_run i s [] few h sorts e = nullable_is (get_or (residual s) i nothing) (sym (classes_are residuals 69 s i classes_test h few) ∙ eq-eqb (class_at s) i e)
from_run i s (k ∷ ks) few h (less, sorts) e =
    derive_is k (get_or (residual s) i nothing) ks (subst (λ f. IsOf f ks) (sym (step_form s k i h less)) (from_run i (after s k) ks few (after_less s k) sorts e))

-- a text is of the form of a class exactly where the table says so
pub class_of_form : (i : ℕ) (ks : List ℕ) → i < 7 → AreSorts ks → IsOf (get_or forms i nothing) ks → class_at (run 0 ks) ≡ i
class_of_form i ks few sorts is = run_from i 0 ks few (omega arith) sorts (subst (λ fs. IsOf (get_or fs i nothing) ks) (sym first_test) is)

pub form_of_class : (i : ℕ) (ks : List ℕ) → i < 7 → AreSorts ks → class_at (run 0 ks) ≡ i → IsOf (get_or forms i nothing) ks
form_of_class i ks few sorts e = subst (λ fs. IsOf (get_or fs i nothing) ks) first_test (from_run i 0 ks few (omega arith) sorts e)
