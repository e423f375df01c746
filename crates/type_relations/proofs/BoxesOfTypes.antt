-- The first box of several.
use Rattle.std.proofs.Common.{◌≡◌, Bool, true, false, cond, List, ◌∷◌, Some, ap}
use Rattle.std.specs.List.{find}

pub found-here : {A : Type 0} (test : A → Bool) (x : A) (xs : List A) → test x ≡ true → find test (x ∷ xs) ≡ Some x
found-here test x xs e = ap (λ (b : Bool). cond b (Some x) (find test xs)) e

pub found-further : {A : Type 0} (test : A → Bool) (x : A) (xs : List A) → test x ≡ false → find test (x ∷ xs) ≡ find test xs
found-further test x xs e = ap (λ (b : Bool). cond b (Some x) (find test xs)) e

pub ruleset finding = (found-here, found-further)
