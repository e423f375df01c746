-- A list put in an order, in which what the order does not tell apart stays as it stands.
use Rattle.std.specs.Prelude.{◌≡◌, Bool, false, List, [], ◌∷◌, if◌then◌else◌}
use Rattle.std.specs.Bool.{⊤}
use Rattle.std.specs.List.{AllByRecursion}

-- an item that stood in front of these: it goes in front of the first that is not below it
unfoldable pub put : {A : Type 0} → (A → A → Bool) → A → List A → List A
put below x [] = x ∷ []
put below x (y ∷ ys) = if below y x then y ∷ put below x ys else x ∷ y ∷ ys

unfoldable pub in_order : {A : Type 0} → (A → A → Bool) → List A → List A
in_order below [] = []
in_order below (x ∷ xs) = put below x (in_order below xs)

-- none of these is below it
abbrev pub NoneBelow : {A : Type 0} → (A → A → Bool) → A → List A → Type 0
NoneBelow below x ys = AllByRecursion (λ y. below y x ≡ false) ys
