-- The characters of character and string literals (JLS 3.10.4, 3.10.5), by the characters of the literal behind its first quote.
use Rattle.std.specs.Prelude.{ℕ, ◌+◌, ◌*◌, ◌-◌, ◌==◌, ◌&&◌, List, [], ◌∷◌, ◌++◌, find, nat_lt}
use Rattle.std.specs.Prelude.{Option, None, Some, option_map, option_and_then, if◌then◌else◌}
use Rattle.std.specs.Char.{digit_value, is_digit}
use Rattle.literal_values.specs.declared.quoted.Reading.{Reading}
use Rattle.literal_values.specs.declared.quoted.Reading.TheVariants.{Plain, Begun, Octal, Closed}

-- the escapes of one letter (JLS 3.10.6): `b`, `t`, `n`, `f`, `r`, `"`, `'` and the backslash, which is 92
abbrev pub escapes : List (ℕ × ℕ)
escapes = (98, 8) ∷ (116, 9) ∷ (110, 10) ∷ (102, 12) ∷ (114, 13) ∷ (34, 34) ∷ (39, 39) ∷ (92, 92) ∷ []

unfoldable pub escaped : ℕ → Option ℕ
escaped c = option_map (λ row. row.1) (find (λ row. row.0 == c) escapes)

-- what a character brings: characters of the value, and how far the literal is read then
pub record Step : Type 0 where
  pub given : List ℕ
  pub next : Reading

abbrev pub step : List ℕ → Reading → Step
step given next = record { given = given; next = next }

-- a character behind these characters: the closing quote, a backslash, or itself
abbrev pub plain_step : ℕ → List ℕ → ℕ → Step
plain_step quote given c = if c == quote then step given Closed else if c == 92 then step given Begun else step (given ++ c ∷ []) Plain

-- behind a backslash: the first digit of an octal escape, which may have three where that is at most 3, and else two; or an escape of one letter
abbrev pub escape_step : ℕ → Option Step
escape_step c = if is_digit c 8 then Some (step [] (Octal (digit_value c) (if nat_lt c 52 then 2 else 1))) else option_map (λ e. step (e ∷ []) Plain) (escaped c)

-- in an octal escape of this value so far: one more digit, or what is behind the escape
abbrev pub octal_step : ℕ → ℕ → ℕ → ℕ → Step
octal_step quote code more c = if nat_lt 0 more && is_digit c 8 then step [] (Octal (code * 8 + digit_value c) (more - 1)) else plain_step quote (code ∷ []) c

abbrev pub read_step : ℕ → Reading → ℕ → Option Step
read_step quote Plain c = Some (plain_step quote [] c)
read_step quote Begun c = escape_step c
read_step quote (Octal code more) c = Some (octal_step quote code more c)
read_step quote Closed c = None

-- nothing stands behind the closing quote
abbrev pub at_end : Reading → Option (List ℕ)
at_end Closed = Some []
at_end _ = None

-- the characters that stand for themselves or by an escape, up to the closing quote
unfoldable pub unquoted : ℕ → Reading → List ℕ → Option (List ℕ)
unquoted quote reading [] = at_end reading
unquoted quote reading (c ∷ cs) = option_and_then (λ s. option_map (λ more. s.given ++ more) (unquoted quote s.next cs)) (read_step quote reading c)

abbrev pub only_character : List ℕ → Option ℕ
only_character (c ∷ []) = Some c
only_character _ = None
