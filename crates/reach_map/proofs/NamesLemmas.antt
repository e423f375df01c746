-- Which names a list of names and a set of names have.
use Rattle.std.proofs.Common.{◌≡◌, ℕ, Bool, true, false, ◌&&◌, ◌||◌, T, List, [], ◌∷◌, ◌++◌, map, refl, sym, ap, subst, ◌∙◌}
use Rattle.std.specs.List.{list_any, AllByRecursion}
use Rattle.std.specs.List.Sorted.{IsStrictlySortedBy}
use Rattle.std.specs.Ordering.{nat_cmp, is_lt, eq_by_cmp}
use Rattle.std.specs.Cmp.Lexicographic.{slice_cmp}
use Rattle.std.specs.declared.cmp.Ordering.{Ordering}
use Rattle.std.specs.declared.cmp.Ordering.TheVariants.{Less, Equal, Greater}
use Rattle.std.specs.FinMap as fin
use Rattle.std.specs.FinMap.{FinMap, contains_key-keys, is_sorted}
use Rattle.std.specs.FinMap.Entries.{below_all}
use Rattle.std.specs.Str.{bytes_eq}
use Rattle.std.proofs.lemmas.Map.Text.{is_eq-slice_cmp}
use Rattle.std.proofs.lemmas.Slice.Eq.{bytes_eq-Decides}
use Rattle.apt_base.specs.Names.{NameSet, with_name, with_names}
use Rattle.apt_base.proofs.NameSets.{contains-with_name, contains-with_names}
use Rattle.reach_map.specs.ClosedCuts.{among, HoldsAll}
use Rattle.reach_map.specs.Reaching.{holds}

-- ---- tests

pub holds_true : (b : Bool) → T b → b ≡ true
holds_true true t = refl
holds_true false t = absurd t

pub is_false : (b : Bool) → (T b → ⊥) → b ≡ false
is_false true f = absurd (f tt)
is_false false f = refl

pub or_cases : {P : Type 0} (a b : Bool) → T (a || b) → (T a → P) → (T b → P) → P
or_cases true b t f g = f tt
or_cases false b t f g = g t

pub or_left : (a b : Bool) → T a → T (a || b)
or_left true b t = tt
or_left false b t = absurd t

pub or_right : (a b : Bool) → T b → T (a || b)
or_right true b t = tt
or_right false b t = t

or_false : (b : Bool) → (b || false) ≡ b
or_false true = refl
or_false false = refl

-- ---- lists of names

pub same_as : (q c : List ℕ) → T (bytes_eq q c) → q ≡ c
same_as q c t = (bytes_eq-Decides q c).0 (holds_true (bytes_eq q c) t)

pub is_itself : (c : List ℕ) → T (bytes_eq c c)
is_itself c = subst T (sym ((bytes_eq-Decides c c).1 refl)) tt

pub among_left : (a b : List (List ℕ)) (q : List ℕ) → T (among a q) → T (among (a ++ b) q)
among_left [] b q t = absurd t
among_left (x ∷ a) b q t =
    or_cases (bytes_eq q x) (among a q) t (or_left (bytes_eq q x) (among (a ++ b) q)) (λ r. or_right (bytes_eq q x) (among (a ++ b) q) (among_left a b q r))

pub among_last : (a : List (List ℕ)) (c : List ℕ) → T (among (a ++ c ∷ []) c)
among_last [] c = or_left (bytes_eq c c) false (is_itself c)
among_last (x ∷ a) c = or_right (bytes_eq c x) (among (a ++ c ∷ []) c) (among_last a c)

pub among-append : (a : List (List ℕ)) (c q : List ℕ) → T (among (a ++ c ∷ []) q) → T (among a q || bytes_eq q c)
among-append [] c q t = subst T (or_false (bytes_eq q c)) t
among-append (x ∷ a) c q t =
    or_cases (bytes_eq q x) (among (a ++ c ∷ []) q) t
    (λ e. or_left (bytes_eq q x || among a q) (bytes_eq q c) (or_left (bytes_eq q x) (among a q) e))
    (λ r. or_cases (among a q) (bytes_eq q c) (among-append a c q r)
    (λ m. or_left (bytes_eq q x || among a q) (bytes_eq q c) (or_right (bytes_eq q x) (among a q) m))
    (or_right (bytes_eq q x || among a q) (bytes_eq q c)))

pub from_each : (names : List ℕ → Bool) (list : List (List ℕ)) → HoldsAll names list → (q : List ℕ) → T (among list q) → T (names q)
from_each names [] all q t = absurd t
from_each names (c ∷ list) all q t =
    or_cases (bytes_eq q c) (among list q) t (λ e. subst (λ x. T (names x)) (sym (same_as q c e)) all.0) (from_each names list all.1 q)

pub to_each : (names : List ℕ → Bool) (list : List (List ℕ)) → ((q : List ℕ) → T (among list q) → T (names q)) → HoldsAll names list
to_each names [] f = tt
to_each names (c ∷ list) f =
    (f c (or_left (bytes_eq c c) (among list c) (is_itself c)), to_each names list (λ q t. f q (or_right (bytes_eq q c) (among list q) t)))

-- ---- sets of names

any_same : (list : List (List ℕ)) (q : List ℕ) → list_any (eq_by_cmp (slice_cmp nat_cmp) q) list ≡ among list q
any_same [] q = refl
any_same (c ∷ list) q =
    ap (λ (b : Bool). b || list_any (eq_by_cmp (slice_cmp nat_cmp) q) list) (is_eq-slice_cmp q c) ∙ ap (λ (b : Bool). bytes_eq q c || b) (any_same list q)

pub holds-with_names : (names : NameSet) (list : List (List ℕ)) (q : List ℕ) → holds (with_names names list) q ≡ (among list q || holds names q)
holds-with_names names list q = contains-with_names names list q ∙ ap (λ (b : Bool). b || holds names q) (any_same list q)

pub among-keys : {X : Type 0} (m : FinMap (slice_cmp nat_cmp) X) (q : List ℕ) → fin.contains_key m q ≡ among (fin.keys m) q
among-keys m q = contains_key-keys m q ∙ any_same (fin.keys m) q

pub grows : (names : NameSet) (c q : List ℕ) → T (holds names q) → T (holds (with_name names c) q)
grows names c q t = subst T (sym (contains-with_name names c q)) (or_right (bytes_eq q c) (holds names q) t)

pub all_grow : (names : NameSet) (list : List (List ℕ)) (q : List ℕ) → T (holds names q) → T (holds (with_names names list) q)
all_grow names list q t = subst T (sym (holds-with_names names list q)) (or_right (among list q) (holds names q) t)

pub has_new : (names : NameSet) (list : List (List ℕ)) (q : List ℕ) → T (among list q) → T (holds (with_names names list) q)
has_new names list q t = subst T (sym (holds-with_names names list q)) (or_left (among list q) (holds names q) t)

-- ---- its names ascend

pub front : (a b : Bool) → T (a && b) → T a
front true b t = tt
front false b t = absurd t

pub back : (a b : Bool) → T (a && b) → T b
back true b t = t
back false b t = absurd t

less : (o : Ordering) → T (is_lt o) → o ≡ Less
less Less t = refl
less Equal t = absurd t
less Greater t = absurd t

each_above : {X : Type 0} (name : List ℕ) (entries : List (List ℕ × X)) → T (below_all (slice_cmp nat_cmp) name entries) → AllByRecursion (λ y. slice_cmp nat_cmp name y ≡ Less) (map (λ e. e.0) entries)
each_above name [] t = tt
each_above name (e ∷ entries) t = (less (slice_cmp nat_cmp name e.0) (front _ _ t), each_above name entries (back _ _ t))

pub ascends : {X : Type 0} (entries : List (List ℕ × X)) → T (is_sorted (slice_cmp nat_cmp) entries) → IsStrictlySortedBy (slice_cmp nat_cmp) (map (λ e. e.0) entries)
unfolding IsStrictlySortedBy
ascends [] t = tt
ascends (e ∷ entries) t = (each_above e.0 entries (front _ _ t), ascends entries (back _ _ t))
