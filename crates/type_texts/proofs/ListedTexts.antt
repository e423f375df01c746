-- What was written of a list with commas so far.
use Rattle.std.proofs.Common.{◌≡◌, ℕ, ◌+◌, ◌<◌, length, get_or, drop, Bool, true, false, List, [], ◌∷◌, ◌++◌, map, refl, sym, ap, ◌∙◌, append_assoc, append-nil}
use Rattle.std.specs.List.{join_with_byte}
use Rattle.std.proofs.lemmas.List.{drop_more}
use Rattle.type_texts.specs.Spelling.{comma, behind, listed_from}

joined-behind : (x : List ℕ) (xs : List (List ℕ)) → join_with_byte 44 (x ∷ xs) ≡ x ++ behind xs
joined-behind x [] = sym (append-nil x)
joined-behind x (y ∷ ys) = ap (λ (t : List ℕ). x ++ (44 ∷ t)) (joined-behind y ys)

pub listed_from-more : (is_first : Bool) (x : List ℕ) (xs : List (List ℕ)) → listed_from is_first (x ∷ xs) ≡ comma is_first ++ (x ++ listed_from false xs)
listed_from-more true x xs = joined-behind x xs
listed_from-more false x xs = refl

pub listed_from-end : (is_first : Bool) → listed_from is_first [] ≡ []
listed_from-end true = refl
listed_from-end false = refl

-- a loop over a list that writes a comma and an item each time
pub listed-step : {A : Type 0} (form : A → List ℕ) (xs : List A) (i : ℕ) (x : A) (is_first : Bool) (begun first second : List ℕ) → i < length xs → x ≡ get_or xs i x
    → first ≡ begun ++ comma is_first → second ≡ first ++ form x
    → second ++ listed_from false (map form (drop (i + 1) xs)) ≡ begun ++ listed_from is_first (map form (drop i xs))
listed-step form xs i x is_first begun first second l e one two =
    let rest = listed_from false (map form (drop (i + 1) xs)) in
    let left : drop i xs ≡ x ∷ drop (i + 1) xs = drop_more xs i x l ∙ ap (λ y. y ∷ drop (i + 1) xs) (sym e) in
    ap (λ (t : List ℕ). t ++ rest) (two ∙ ap (λ (t : List ℕ). t ++ form x) one)
    ∙ append_assoc (begun ++ comma is_first) (form x) rest
    ∙ append_assoc begun (comma is_first) (form x ++ rest)
    ∙ ap (λ (t : List ℕ). begun ++ t) (sym (listed_from-more is_first (form x) (map form (drop (i + 1) xs))) ∙ ap (λ ys. listed_from is_first (map form ys)) (sym left))

pub ruleset listed = (listed_from-more, listed_from-end)
