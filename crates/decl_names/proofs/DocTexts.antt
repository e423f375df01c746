-- The bytes of two texts, one after the other.
use Rattle.std.proofs.Common.{◌≡◌, ℕ, List, [], ◌∷◌, ◌++◌, refl, sym, ap, ◌∙◌, append_assoc}
use Rattle.std.specs.Str.{encode_utf8_all}
use Rattle.std.specs.Char.{encode_utf8}

pub encodes-append : (xs ys : List ℕ) → encode_utf8_all (xs ++ ys) ≡ encode_utf8_all xs ++ encode_utf8_all ys
encodes-append [] ys = refl
encodes-append (x ∷ xs) ys = ap (λ (zs : List ℕ). encode_utf8 x ++ zs) (encodes-append xs ys) ∙ sym (append_assoc (encode_utf8 x) (encode_utf8_all xs) (encode_utf8_all ys))

-- one step of a loop that puts the bytes of a text behind others
pub encodes-step : (front next : List ℕ) (xs ys total : List ℕ) → front ++ encode_utf8_all (xs ++ ys) ≡ total → next ≡ front ++ encode_utf8_all xs → next ++ encode_utf8_all ys ≡ total
encodes-step front next xs ys total so_far is =
    ap (λ (zs : List ℕ). zs ++ encode_utf8_all ys) is ∙ (append_assoc front (encode_utf8_all xs) (encode_utf8_all ys) ∙ (ap (λ (zs : List ℕ). front ++ zs) (sym (encodes-append xs ys)) ∙ so_far))
