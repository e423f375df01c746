-- Lists in two parts, in two ways.
use Rattle.std.proofs.Common.{◌≡◌, List, [], ◌∷◌, ◌++◌, ◌⊎◌, inl, inr, refl, sym}

pub same-head : {A : Type 0} (a b : A) (xs ys : List A) → a ∷ xs ≡ b ∷ ys → (a ≡ b) × (xs ≡ ys)
same-head a b xs ys e = (cc, cc)

-- Of a list with one item behind it a part that is not empty has that item at its end.
pub last-of : {A : Type 0} (t : A) (ws us rs : List A) → ws ++ t ∷ [] ≡ us ++ rs → (rs ≡ [] → ⊥) → (qs : List A) × (rs ≡ qs ++ t ∷ []) × (ws ≡ us ++ qs)
last-of t ws [] rs e some = (ws, sym e, refl)
last-of {A = A} t [] (u ∷ us) rs e some = absurd (some (behind-nothing us rs (same-head t u [] (us ++ rs) e).1))
  where
    behind-nothing : (us rs : List A) → [] ≡ us ++ rs → rs ≡ []
    behind-nothing [] rs e = sym e
    behind-nothing (u ∷ us) rs e = absurd cc
last-of t (w ∷ ws) (u ∷ us) rs e some =
    let same = same-head w u (ws ++ t ∷ []) (us ++ rs) e in
    let r = last-of t ws us rs same.1 some in
    (r.0, r.1, cc)

-- one of two fronts is a front of the other one
pub two-fronts : {A : Type 0} (xs ys zs ws : List A) → xs ++ ys ≡ zs ++ ws → ((ks : List A) × (zs ≡ xs ++ ks) × (ys ≡ ks ++ ws)) ⊎ ((ks : List A) × (xs ≡ zs ++ ks) × (ws ≡ ks ++ ys))
two-fronts [] ys zs ws e = inl (zs, refl, e)
two-fronts (a ∷ xs) ys [] ws e = inr (a ∷ xs, refl, sym e)
two-fronts {A = A} (a ∷ xs) ys (c ∷ zs) ws e = go (two-fronts xs ys zs ws (same-head a c (xs ++ ys) (zs ++ ws) e).1)
  where
    go : ((ks : List A) × (zs ≡ xs ++ ks) × (ys ≡ ks ++ ws)) ⊎ ((ks : List A) × (xs ≡ zs ++ ks) × (ws ≡ ks ++ ys))
        → ((ks : List A) × (c ∷ zs ≡ (a ∷ xs) ++ ks) × (ys ≡ ks ++ ws)) ⊎ ((ks : List A) × (a ∷ xs ≡ (c ∷ zs) ++ ks) × (ws ≡ ks ++ ys))
    go (inl p) = let h = same-head a c (xs ++ ys) (zs ++ ws) e in inl (p.0, cc, p.2)
    go (inr p) = let h = same-head a c (xs ++ ys) (zs ++ ws) e in inr (p.0, cc, p.2)
