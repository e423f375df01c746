-- Lists that are put apart item by item: what each item gives, behind others.
use Rattle.std.proofs.Common.{◌≡◌, List, [], ◌∷◌, ◌++◌, map, refl, sym, ap, ◌∙◌, append_assoc}

map-push : {A B : Type 0} (f : A → B) (xs : List A) (x : A) → map f (xs ++ x ∷ []) ≡ map f xs ++ f x ∷ []
map-push f [] x = refl
map-push {A} {B} f (y ∷ xs) x = ap (λ (zs : List B). f y ∷ zs) (map-push f xs x)

-- one item more of a list that stands behind a front
pub push-behind : {A B : Type 0} (f : A → B) (front : List B) (xs : List A) (x : A) (so_far after : List B) → so_far ≡ front ++ map f xs → after ≡ so_far ++ f x ∷ [] → after ≡ front ++ map f (xs ++ x ∷ [])
push-behind {A} {B} f front xs x so_far after is next =
    next ∙ (ap (λ (zs : List B). zs ++ f x ∷ []) is ∙ (append_assoc front (map f xs) (f x ∷ []) ∙ ap (λ (zs : List B). front ++ zs) (sym (map-push f xs x))))

-- the same where nothing stands before it
pub push-mapped : {A B : Type 0} (f : A → B) (xs : List A) (x : A) (so_far after : List B) → so_far ≡ map f xs → after ≡ so_far ++ f x ∷ [] → after ≡ map f (xs ++ x ∷ [])
push-mapped f xs x so_far after is next = push-behind f [] xs x so_far after is next
