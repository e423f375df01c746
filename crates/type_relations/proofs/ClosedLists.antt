-- A list of values that may be open, from left to right.
use Rattle.std.proofs.Common.{◌≡◌, List, [], ◌∷◌, ◌++◌, Option, None, Some, refl, sym, ap, append_assoc, append-nil}
use Rattle.type_relations.specs.Closed.{closed, behind}

pub behind-start : {A : Type 0} (o : Option (List A)) → behind [] o ≡ o
behind-start None = refl
behind-start (Some ys) = refl

pub behind-end : {A : Type 0} (xs : List A) → behind xs (closed []) ≡ Some xs
behind-end {A} xs = ap (λ (ys : List A). Some ys) (append-nil xs)

-- one value more
pub behind-some : {A : Type 0} (xs : List A) (y : A) (more : List (Option A)) → behind xs (closed (Some y ∷ more)) ≡ behind (xs ++ y ∷ []) (closed more)
behind-some {A} xs y more = by (closed more)
  where
    by : (o : Option (List A)) → behind xs (behind (y ∷ []) o) ≡ behind (xs ++ y ∷ []) o
    by None = refl
    by (Some ys) = ap (λ (zs : List A). Some zs) (sym (append_assoc xs (y ∷ []) ys))

-- one that is open
pub behind-none : {A : Type 0} (xs : List A) (more : List (Option A)) → behind xs (closed (None ∷ more)) ≡ None
behind-none xs more = refl
