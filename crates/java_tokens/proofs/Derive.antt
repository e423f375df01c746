-- What is left of a form after a character, and that it is exact.
use Rattle.std.proofs.Common.{◌≡◌, ◌⊎◌, inl, inr, eqb, ◌&&◌, ◌||◌, ℕ, Bool, true, false, List, [], ◌∷◌, ◌++◌, refl, sym, ap, ◌∙◌, subst}
use Rattle.std.proofs.lemmas.Bool.{false≢true}
use Rattle.std.proofs.lemmas.Bool.Decides.{Decides-eqb}
use Rattle.java_tokens.specs.Forms.{Form, nothing, empty, one, either, both, many, among, IsOf, Repeats, none, more}

-- the empty text is of the form
abbrev pub nullable : Form → Bool
nullable nothing = false
nullable empty = true
nullable (one sorts) = false
nullable (either f g) = nullable f || nullable g
nullable (both f g) = nullable f && nullable g
nullable (many f) = true

abbrev same_list : List ℕ → List ℕ → Bool
same_list [] [] = true
same_list (x ∷ xs) (y ∷ ys) = eqb x y && same_list xs ys
same_list xs ys = false

-- two forms are written alike
abbrev pub same : Form → Form → Bool
same nothing nothing = true
same empty empty = true
same (one a) (one b) = same_list a b
same (either f g) (either h i) = same f h && same g i
same (both f g) (both h i) = same f h && same g i
same (many f) (many g) = same f g
same f g = false

abbrev with_same : Bool → Form → Form → Form
with_same true f g = f
with_same false f g = either f g

abbrev pub either_of : Form → Form → Form
either_of nothing g = g
either_of f nothing = f
either_of f g = with_same (same f g) f g

abbrev pub both_of : Form → Form → Form
both_of nothing g = nothing
both_of f nothing = nothing
both_of empty g = g
both_of f g = both f g

abbrev or_nothing : Bool → Form → Form
or_nothing true f = f
or_nothing false f = nothing

-- what may follow a character of a sort in a text of the form
abbrev pub derive : ℕ → Form → Form
derive s nothing = nothing
derive s empty = nothing
derive s (one sorts) = or_nothing (among sorts s) empty
derive s (either f g) = either_of (derive s f) (derive s g)
derive s (both f g) = either_of (both_of (derive s f) g) (or_nothing (nullable f) (derive s g))
derive s (many f) = both_of (derive s f) (many f)

or_true : (a b : Bool) → (a || b) ≡ true → (a ≡ true) ⊎ (b ≡ true)
or_true true b e = inl refl
or_true false b e = inr e

true_or : (a b : Bool) → (a ≡ true) ⊎ (b ≡ true) → (a || b) ≡ true
true_or true b e = refl
true_or false b (inl e) = absurd (false≢true e)
true_or false b (inr e) = e

and_true : (a b : Bool) → (a && b) ≡ true → (a ≡ true) × (b ≡ true)
and_true true b e = (refl, e)
and_true false b e = absurd (false≢true e)

true_and : (a b : Bool) → a ≡ true → b ≡ true → (a && b) ≡ true
true_and true b p q = q
true_and false b p q = absurd (false≢true p)

no_parts : (a b : List ℕ) → [] ≡ a ++ b → (a ≡ []) × (b ≡ [])
no_parts [] b e = (refl, sym e)
no_parts (x ∷ a) b e = absurd (cc)

-- the empty text
pub nullable_is : (f : Form) → nullable f ≡ true → IsOf f []
nullable_is nothing e = false≢true e
nullable_is empty e = refl
nullable_is (one sorts) e = absurd (false≢true e)
nullable_is (either f g) e = elim (or_true (nullable f) (nullable g) e) [ inl p ↦ inl (nullable_is f p) | inr q ↦ inr (nullable_is g q) ]
nullable_is (both f g) e = let p = and_true (nullable f) (nullable g) e in ([], [], refl, nullable_is f p.0, nullable_is g p.1)
nullable_is (many f) e = none [] refl

pub is_nullable : (f : Form) → IsOf f [] → nullable f ≡ true
is_nullable nothing is = absurd is
is_nullable empty is = refl
is_nullable (one sorts) is = absurd (let e = is.1 in cc)
is_nullable (either f g) (inl is) = true_or (nullable f) (nullable g) (inl (is_nullable f is))
is_nullable (either f g) (inr is) = true_or (nullable f) (nullable g) (inr (is_nullable g is))
is_nullable (both f g) (a, b, split, p, q) =
    let no = no_parts a b split in
    true_and (nullable f) (nullable g) (is_nullable f (subst (IsOf f) no.0 p)) (is_nullable g (subst (IsOf g) no.1 q))
is_nullable (many f) is = refl

-- forms that are written alike
same_list_is : (a b : List ℕ) → same_list a b ≡ true → a ≡ b
same_list_is [] [] e = refl
same_list_is [] (y ∷ ys) e = absurd (false≢true e)
same_list_is (x ∷ xs) [] e = absurd (false≢true e)
same_list_is (x ∷ xs) (y ∷ ys) e =
    let p = and_true (eqb x y) (same_list xs ys) e in
    ap (λ z. z ∷ xs) ((Decides-eqb x y).0 p.0) ∙ ap (λ zs. y ∷ zs) (same_list_is xs ys p.1)

pub same_is : (f g : Form) → same f g ≡ true → f ≡ g
same_is nothing nothing e = refl
same_is empty empty e = refl
same_is (one a) (one b) e = ap one (same_list_is a b e)
same_is (either f g) (either h i) e = let p = and_true (same f h) (same g i) e in ap (λ x. either x g) (same_is f h p.0) ∙ ap (either h) (same_is g i p.1)
same_is (both f g) (both h i) e = let p = and_true (same f h) (same g i) e in ap (λ x. both x g) (same_is f h p.0) ∙ ap (both h) (same_is g i p.1)
same_is (many f) (many g) e = ap many (same_is f g e)
same_is f g e = absurd (false≢true e)

with_same_is : (b : Bool) (f g : Form) (t : List ℕ) → (b ≡ true → f ≡ g) → IsOf (with_same b f g) t → IsOf f t ⊎ IsOf g t
with_same_is true f g t e is = inl is
with_same_is false f g t e is = is

is_with_same : (b : Bool) (f g : Form) (t : List ℕ) → (b ≡ true → f ≡ g) → IsOf f t ⊎ IsOf g t → IsOf (with_same b f g) t
is_with_same true f g t e (inl is) = is
is_with_same true f g t e (inr is) = subst (λ h. IsOf h t) (sym (e refl)) is
is_with_same false f g t e is = is

either_of_is : (f g : Form) (t : List ℕ) → IsOf (either_of f g) t → IsOf f t ⊎ IsOf g t
either_of_is nothing g t is = inr is
either_of_is f nothing t is = inl is
either_of_is f g t is = with_same_is (same f g) f g t (same_is f g) is

is_either_of : (f g : Form) (t : List ℕ) → IsOf f t ⊎ IsOf g t → IsOf (either_of f g) t
is_either_of nothing g t (inl is) = absurd is
is_either_of nothing g t (inr is) = is
is_either_of f nothing t (inl is) = is
is_either_of f nothing t (inr is) = absurd is
is_either_of f g t is = is_with_same (same f g) f g t (same_is f g) is

both_of_is : (f g : Form) (t : List ℕ) → IsOf (both_of f g) t → IsOf (both f g) t
both_of_is nothing g t is = absurd is
both_of_is f nothing t is = absurd is
both_of_is empty g t is = ([], t, refl, refl, is)
both_of_is f g t is = is

is_both_of : (f g : Form) (t : List ℕ) → IsOf (both f g) t → IsOf (both_of f g) t
is_both_of nothing g t is = absurd is.3
is_both_of f nothing t is = absurd is.4
is_both_of empty g t (a, b, split, p, q) = subst (IsOf g) (sym (split ∙ ap (λ x. x ++ b) p)) q
is_both_of f g t is = is

or_nothing_is : (b : Bool) (f : Form) (t : List ℕ) → IsOf (or_nothing b f) t → (b ≡ true) × IsOf f t
or_nothing_is true f t is = (refl, is)
or_nothing_is false f t is = absurd is

is_or_nothing : (b : Bool) (f : Form) (t : List ℕ) → b ≡ true → IsOf f t → IsOf (or_nothing b f) t
is_or_nothing true f t e is = is
is_or_nothing false f t e is = absurd (false≢true e)

-- what is left of a form follows the character
pub derive_is : (s : ℕ) (f : Form) (t : List ℕ) → IsOf (derive s f) t → IsOf f (s ∷ t)
derive_is s nothing t is = is
derive_is s empty t is = absurd is
derive_is s (one sorts) t is = let p = or_nothing_is (among sorts s) empty t is in (s, ap (λ r. s ∷ r) p.1, p.0)
derive_is s (either f g) t is = elim (either_of_is (derive s f) (derive s g) t is) [ inl p ↦ inl (derive_is s f t p) | inr q ↦ inr (derive_is s g t q) ]
derive_is s (both f g) t is = elim (either_of_is (both_of (derive s f) g) (or_nothing (nullable f) (derive s g)) t is) [
  | inl p ↦ let r = both_of_is (derive s f) g t p in (s ∷ r.0, r.1, ap (λ x. s ∷ x) r.2, derive_is s f r.0 r.3, r.4)
  | inr q ↦ let r = or_nothing_is (nullable f) (derive s g) t q in ([], s ∷ t, refl, nullable_is f r.0, derive_is s g t r.1)
]
derive_is s (many f) t is =
    let r = both_of_is (derive s f) (many f) t is in
    more (s ∷ t) (s ∷ r.0) r.1 (ap (λ x. s ∷ x) r.2) (derive_is s f r.0 r.3) r.4

-- the first part of a text
cut_first : (s : ℕ) (t a b : List ℕ) → s ∷ t ≡ a ++ b → ((a ≡ []) × (b ≡ s ∷ t)) ⊎ ((rest : List ℕ) × (a ≡ s ∷ rest) × (t ≡ rest ++ b))
cut_first s t [] b e = inl (refl, sym e)
cut_first s t (x ∷ a) b e = inr (a, cc, cc)

pub is_derive : (s : ℕ) (f : Form) (t : List ℕ) → IsOf f (s ∷ t) → IsOf (derive s f) t
is_derive s nothing t is = is
is_derive s empty t is = absurd (cc is)
is_derive s (one sorts) t (c, e, in_sorts) =
    let here : s ≡ c = cc in
    let rest : t ≡ [] = cc in
    is_or_nothing (among sorts s) empty t (subst (λ n. among sorts n ≡ true) (sym here) in_sorts) rest
is_derive s (either f g) t (inl is) = is_either_of (derive s f) (derive s g) t (inl (is_derive s f t is))
is_derive s (either f g) t (inr is) = is_either_of (derive s f) (derive s g) t (inr (is_derive s g t is))
is_derive s (both f g) t (a, b, split, p, q) =
    is_either_of (both_of (derive s f) g) (or_nothing (nullable f) (derive s g)) t (by_cut (λ rest. is_derive s f rest) (is_derive s g t) (cut_first s t a b split))
  where
    by_cut : ((rest : List ℕ) → IsOf f (s ∷ rest) → IsOf (derive s f) rest) → (IsOf g (s ∷ t) → IsOf (derive s g) t) → ((a ≡ []) × (b ≡ s ∷ t)) ⊎ ((rest : List ℕ) × (a ≡ s ∷ rest) × (t ≡ rest ++ b)) → IsOf (both_of (derive s f) g) t ⊎ IsOf (or_nothing (nullable f) (derive s g)) t
    by_cut first second (inl cut) = inr (is_or_nothing (nullable f) (derive s g) t (is_nullable f (subst (IsOf f) cut.0 p)) (second (subst (IsOf g) cut.1 q)))
    by_cut first second (inr cut) = inl (is_both_of (derive s f) g t (cut.0, b, cut.2, first cut.0 (subst (IsOf f) cut.1 p), q))
is_derive s (many f) t is = repeats (λ rest. is_derive s f rest) (s ∷ t) is refl
  where
    by_cut : ((rest : List ℕ) → IsOf f (s ∷ rest) → IsOf (derive s f) rest) → (a b : List ℕ) → IsOf f a → Repeats (IsOf f) b → (b ≡ s ∷ t → IsOf (both_of (derive s f) (many f)) t) → ((a ≡ []) × (b ≡ s ∷ t)) ⊎ ((rest : List ℕ) × (a ≡ s ∷ rest) × (t ≡ rest ++ b)) → IsOf (both_of (derive s f) (many f)) t
    by_cut first a b p q later (inl cut) = later cut.1
    by_cut first a b p q later (inr cut) = is_both_of (derive s f) (many f) t (cut.0, b, cut.2, first cut.0 (subst (IsOf f) cut.1 p), q)

    repeats : ((rest : List ℕ) → IsOf f (s ∷ rest) → IsOf (derive s f) rest) → (x : List ℕ) → Repeats (IsOf f) x → x ≡ s ∷ t → IsOf (both_of (derive s f) (many f)) t
    repeats first _ (none x e) at = absurd (cc)
    repeats first _ (more x a b split p q) at = by_cut first a b p q (λ e. repeats first b q e) (cut_first s t a b (sym at ∙ split))
