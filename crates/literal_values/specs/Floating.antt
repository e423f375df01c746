-- Floating-point literals (JLS 3.10.2), asked of what is no integer literal.
use Rattle.std.specs.Prelude.{ℕ, ◌+◌, ◌-◌, ◌==◌, ◌&&◌, ◌||◌, not, Bool, false, List, [], ◌∷◌, length, take, drop, slice_get, Option, None, Some, is_some, if◌then◌else◌}
use Rattle.std.specs.List.{position}
use Rattle.std.specs.Option.{option_map_or}
use Rattle.literal_values.specs.Numerals.{digits_number}

abbrev pub is_dot : ℕ → Bool
is_dot c = c == 46

-- `e` or `E`
abbrev pub is_letter_e : ℕ → Bool
is_letter_e c = (c == 101) || (c == 69)

-- `p` or `P`
abbrev pub is_letter_p : ℕ → Bool
is_letter_p c = (c == 112) || (c == 80)

-- `x` or `X`
abbrev pub is_letter_x : ℕ → Bool
is_letter_x c = (c == 120) || (c == 88)

abbrev pub is_sign : ℕ → Bool
is_sign c = (c == 43) || (c == 45)

-- an `f`, an `F`, a `d` or a `D`
abbrev pub is_float_suffix : ℕ → Bool
is_float_suffix c = ((c == 102) || (c == 70)) || ((c == 100) || (c == 68))

abbrev pub is_digits : ℕ → List ℕ → Bool
is_digits radix text = is_some (digits_number radix text)

abbrev pub is_empty : List ℕ → Bool
is_empty text = length text == 0

-- digits, or nothing
abbrev pub may_be_digits : ℕ → List ℕ → Bool
may_be_digits radix text = is_empty text || is_digits radix text

-- digits on both sides of a dot, or on one side of it alone
abbrev pub is_fraction : ℕ → List ℕ → List ℕ → Bool
is_fraction radix whole part = (may_be_digits radix whole && may_be_digits radix part) && not (is_empty whole && is_empty part)

-- digits, with or without a dot
abbrev pub is_significand_at : ℕ → List ℕ → Option ℕ → Bool
is_significand_at radix text None = is_digits radix text
is_significand_at radix text (Some dot) = is_fraction radix (take dot text) (drop (dot + 1) text)

unfoldable pub is_significand : ℕ → List ℕ → Bool
is_significand radix text = is_significand_at radix text (position is_dot text)

-- digits, with or without a sign
unfoldable pub is_exponent : List ℕ → Bool
is_exponent [] = false
is_exponent (c ∷ cs) = is_digits 10 (if is_sign c then cs else c ∷ cs)

-- a decimal one has an exponent, a suffix or a dot
abbrev pub is_decimal_at : Bool → List ℕ → Option ℕ → Bool
is_decimal_at suffixed text None = is_significand 10 text && (suffixed || is_some (position is_dot text))
is_decimal_at suffixed text (Some letter) = is_significand 10 (take letter text) && is_exponent (drop (letter + 1) text)

unfoldable pub is_decimal : Bool → List ℕ → Bool
is_decimal suffixed text = is_decimal_at suffixed text (position is_letter_e text)

-- a hexadecimal one has an exponent
abbrev pub is_hexadecimal_at : List ℕ → Option ℕ → Bool
is_hexadecimal_at digits None = false
is_hexadecimal_at digits (Some letter) = is_significand 16 (take letter digits) && is_exponent (drop (letter + 1) digits)

unfoldable pub is_hexadecimal : List ℕ → Bool
is_hexadecimal [] = false
is_hexadecimal (c ∷ []) = false
is_hexadecimal (c ∷ d ∷ cs) = ((c == 48) && is_letter_x d) && is_hexadecimal_at cs (position is_letter_p cs)

-- a suffix stands at the end
unfoldable pub is_suffixed : List ℕ → Bool
is_suffixed text = option_map_or is_float_suffix (slice_get text (length text - 1)) false

abbrev pub without_suffix : List ℕ → List ℕ
without_suffix text = if is_suffixed text then take (length text - 1) text else text

unfoldable pub is_floating : List ℕ → Bool
is_floating text = is_decimal (is_suffixed text) (without_suffix text) || is_hexadecimal (without_suffix text)
