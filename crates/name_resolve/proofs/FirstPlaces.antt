-- The first place that finds anything: where one finds something, none behind it is asked.
use Rattle.std.proofs.Common.{◌≡◌, ℕ, List, [], ◌∷◌, refl, ap, ◌∙◌}
use Rattle.name_resolve.specs.Finds.{Finds, Nothing, One, Several, first_of}
use Rattle.name_resolve.specs.Meaning.{Members, along, along_or}

-- it finds something
pub first_found : (x : Finds) (rest : List Finds) → (x ≡ Nothing → ⊥) → first_of (x ∷ rest) ≡ x
first_found Nothing rest h = absurd (h refl)
first_found (One f) rest h = refl
first_found Several rest h = refl

-- it finds nothing
pub first_skipped : (x : Finds) (rest : List Finds) → x ≡ Nothing → first_of (x ∷ rest) ≡ first_of rest
first_skipped x rest e = ap (λ y. first_of (y ∷ rest)) e

pub first_alone : (x : Finds) → first_of (x ∷ []) ≡ x
first_alone Nothing = refl
first_alone (One f) = refl
first_alone Several = refl

-- the last of two, three and four places
pub second_of : (x y : Finds) → x ≡ Nothing → first_of (x ∷ y ∷ []) ≡ y
second_of x y e = first_skipped x (y ∷ []) e ∙ first_alone y

pub third_of : (x y z : Finds) → x ≡ Nothing → y ≡ Nothing → first_of (x ∷ y ∷ z ∷ []) ≡ z
third_of x y z e f = first_skipped x (y ∷ z ∷ []) e ∙ second_of y z f

pub fourth_of : (x y z w : Finds) → x ≡ Nothing → y ≡ Nothing → z ≡ Nothing → first_of (x ∷ y ∷ z ∷ w ∷ []) ≡ w
fourth_of x y z w e f g = first_skipped x (y ∷ z ∷ w ∷ []) e ∙ third_of y z w f g

-- ---- names behind one that means nothing or several things

pub or_nothing : (m : Members) (names : List (List ℕ)) (other x : Finds) → x ≡ Nothing → along_or m names other x ≡ other
or_nothing m names other x e = ap (along_or m names other) e

pub or_found : (m : Members) (names : List (List ℕ)) (other x : Finds) → (x ≡ Nothing → ⊥) → along_or m names other x ≡ along m x names
or_found m names other Nothing h = absurd (h refl)
or_found m names other (One f) h = refl
or_found m names other Several h = refl
