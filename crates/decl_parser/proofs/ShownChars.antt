-- Characters that were read, as they are placed: their codes and their offsets.
use Rattle.std.proofs.Common.{◌≡◌, ℕ, List, [], ◌∷◌, length, refl, sym, ap, subst, arith}
use Rattle.std.specs.Prelude.{zip}
use Rattle.java_tokens.specs.declared.chars.Chars.{Chars}
use Rattle.java_tokens.specs.Tokens.{Lexeme, AreTokens, IsTokenFault}
use Rattle.java_tokens.specs.TokensShown.{codes_in, offsets_in, placed_in, AreTokensIn, IsTokenFaultIn}
use Rattle.java_tokens.proofs.Readings.{offsets-length}
use Rattle.decl_parser.specs.Parsed.{codes_of, offsets_of}

firsts : (xs ys : List ℕ) → length xs ≡ length ys → codes_of (zip xs ys) ≡ xs
firsts [] ys same = refl
firsts (x ∷ xs) [] same = absurd (omega (arith, same))
firsts (x ∷ xs) (y ∷ ys) same = ap (λ (zs : List ℕ). x ∷ zs) (firsts xs ys (omega (arith, same)))

seconds : (xs ys : List ℕ) → length xs ≡ length ys → offsets_of (zip xs ys) ≡ ys
seconds [] [] same = refl
seconds [] (y ∷ ys) same = absurd (omega (arith, same))
seconds (x ∷ xs) [] same = absurd (omega (arith, same))
seconds (x ∷ xs) (y ∷ ys) same = ap (λ (zs : List ℕ). y ∷ zs) (seconds xs ys (omega (arith, same)))

module _ (read : Chars) where
  as_long : length (codes_in read) ≡ length (offsets_in read)
  as_long = sym (offsets-length (codes_in read) read.shifts.items)

  codes-are : codes_of (placed_in read) ≡ codes_in read
  codes-are = firsts (codes_in read) (offsets_in read) as_long

  offsets-are : offsets_of (placed_in read) ≡ offsets_in read
  offsets-are = seconds (codes_in read) (offsets_in read) as_long

  pub tokens-placed : (ts : List Lexeme) → AreTokensIn read ts → AreTokens (codes_of (placed_in read)) (offsets_of (placed_in read)) ts
  tokens-placed ts are = subst (λ (cs : List ℕ). AreTokens cs (offsets_of (placed_in read)) ts) (sym codes-are) (subst (λ (os : List ℕ). AreTokens (codes_in read) os ts) (sym offsets-are) are)

  pub fault-placed : (place : ℕ) → IsTokenFaultIn read place → IsTokenFault (codes_of (placed_in read)) (offsets_of (placed_in read)) place
  fault-placed place stop = subst (λ (cs : List ℕ). IsTokenFault cs (offsets_of (placed_in read)) place) (sym codes-are) (subst (λ (os : List ℕ). IsTokenFault (codes_in read) os place) (sym offsets-are) stop)
