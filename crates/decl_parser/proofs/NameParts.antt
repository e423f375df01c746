-- Whether a text is the canonical name of a unit, by its parts: the name of the package, a dot and the simple name.
use Rattle.std.proofs.Common.{◌≡◌, ◌≢◌, ℕ, Bool, true, false, List, [], ◌∷◌, ◌++◌, length, refl, sym, ap, ◌∙◌}
use Rattle.std.specs.Prelude.{bytes_eq, ◌==◌}
use Rattle.std.proofs.lemmas.Slice.Eq.{bytes_eq-Decides}
use Rattle.std.proofs.lemmas.List.{append_cancel_left}
use Rattle.element_table.specs.UnitNames.{in_package}

-- two tests that tell the same
same-test : (a b : Bool) → (a ≡ true → b ≡ true) → (b ≡ true → a ≡ true) → a ≡ b
same-test true b there back = sym (there refl)
same-test false true there back = back refl
same-test false false there back = refl

no-test : (a : Bool) → (a ≡ true → ⊥) → false ≡ a
no-test true none = absurd (none refl)
no-test false none = refl

-- the text begins so, and what stands behind it is compared
pub same-front : (p rest back text : List ℕ) → text ≡ p ++ rest → bytes_eq back rest ≡ bytes_eq (p ++ back) text
same-front p rest back text parts = same-test (bytes_eq back rest) (bytes_eq (p ++ back) text) there again
  where
    there : bytes_eq back rest ≡ true → bytes_eq (p ++ back) text ≡ true
    there is = (bytes_eq-Decides (p ++ back) text).1 (ap (λ (xs : List ℕ). p ++ xs) ((bytes_eq-Decides back rest).0 is) ∙ sym parts)

    again : bytes_eq (p ++ back) text ≡ true → bytes_eq back rest ≡ true
    again is = (bytes_eq-Decides back rest).1 (append_cancel_left p back rest ((bytes_eq-Decides (p ++ back) text).0 is ∙ parts))

-- it does not begin so
pub other-front : (p back text : List ℕ) → ((rest : List ℕ) → text ≢ p ++ rest) → false ≡ bytes_eq (p ++ back) text
other-front p back text other = no-test (bytes_eq (p ++ back) text) (λ is. other back (sym ((bytes_eq-Decides (p ++ back) text).0 is)))

-- behind a package that has a name
in-named : (p simple : List ℕ) → (length p == 0) ≡ false → in_package p simple ≡ p ++ 46 ∷ simple
in-named [] simple named = absurd cc
in-named (c ∷ cs) simple named = refl

pub in-parts : (p simple text rest : List ℕ) (r : Bool) → (length p == 0) ≡ false → text ≡ p ++ rest → r ≡ bytes_eq (46 ∷ simple) rest → r ≡ bytes_eq (in_package p simple) text
in-parts p simple text rest r named parts is =
    is ∙ (same-front p rest (46 ∷ simple) text parts ∙ ap (λ (xs : List ℕ). bytes_eq xs text) (sym (in-named p simple named)))

pub in-other : (p simple text : List ℕ) → (length p == 0) ≡ false → ((rest : List ℕ) → text ≢ p ++ rest) → false ≡ bytes_eq (in_package p simple) text
in-other p simple text named other = other-front p (46 ∷ simple) text other ∙ ap (λ (xs : List ℕ). bytes_eq xs text) (sym (in-named p simple named))
