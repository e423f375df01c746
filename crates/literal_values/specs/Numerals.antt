-- Integer literals (JLS 3.10.1): the numbers that they spell, and their values within the limits of their types.
use Rattle.std.specs.Prelude.{ℕ, ◌+◌, ◌*◌, ◌-◌, ◌^◌, ◌==◌, ◌||◌, Bool, true, false, ℤ, pos, neg_ℤ, List, [], ◌∷◌, length, take, nat_lt, nat_le}
use Rattle.std.specs.Prelude.{Option, None, Some, option_map, option_and_then, slice_get, if◌then◌else◌}
use Rattle.std.specs.Option.{option_map_or}
use Rattle.std.specs.Char.{digit_value, is_digit}
use Rattle.std.specs.Int.{Width, w32, w64, cast_signed, int_wrapping_neg}
use Rattle.type_mirror.specs.declared.value.WholeKind.{WholeKind}
use Rattle.type_mirror.specs.declared.value.WholeKind.TheVariants as whole

-- ---- their form

-- the value of a digit of a radix
abbrev pub digit_in : ℕ → ℕ → Option ℕ
digit_in radix c = if is_digit c radix then Some (digit_value c) else None

-- digits of a radix with any `_` between them (95); the number so far, and whether a digit has to follow
abbrev pub digits_from : ℕ → ℕ → Bool → List ℕ → Option ℕ
digits_from radix number wanted [] = if wanted then None else Some number
digits_from radix number wanted (c ∷ cs) =
    if c == 95 then digits_from radix number true cs else option_and_then (λ d. digits_from radix (number * radix + d) false cs) (digit_in radix c)

-- the number that they spell; the first and the last of them is a digit
unfoldable pub digits_number : ℕ → List ℕ → Option ℕ
digits_number radix [] = None
digits_number radix (c ∷ cs) = option_and_then (λ d. digits_from radix d false cs) (digit_in radix c)

-- the radix in which a literal is written, and the number
pub record Numeral : Type 0 where
  pub radix : ℕ
  pub number : ℕ

abbrev pub numeral : ℕ → ℕ → Numeral
numeral radix number = record { radix = radix; number = number }

abbrev pub numeral_in : ℕ → List ℕ → Option Numeral
numeral_in radix digits = option_map (numeral radix) (digits_number radix digits)

-- what follows a first 0: `x` in front of hexadecimal digits, `b` in front of binary ones, or octal ones
abbrev pub behind_zero : ℕ → List ℕ → Option Numeral
behind_zero c cs =
    if (c == 120) || (c == 88) then numeral_in 16 cs
    else if (c == 98) || (c == 66) then numeral_in 2 cs
    else numeral_in 8 (48 ∷ c ∷ cs)

unfoldable pub numeral_of : List ℕ → Option Numeral
numeral_of [] = None
numeral_of (c ∷ []) = numeral_in 10 (c ∷ [])
numeral_of (c ∷ d ∷ cs) = if c == 48 then behind_zero d cs else numeral_in 10 (c ∷ d ∷ cs)

-- an `l` or an `L`
abbrev pub is_suffix : ℕ → Bool
is_suffix c = (c == 108) || (c == 76)

-- one stands at the end
unfoldable pub is_long : List ℕ → Bool
is_long text = option_map_or is_suffix (slice_get text (length text - 1)) false

abbrev pub whole_kind : List ℕ → WholeKind
whole_kind text = if is_long text then whole.Long else whole.Int

-- without that letter
abbrev pub without_suffix : List ℕ → List ℕ
without_suffix text = if is_long text then take (length text - 1) text else text

unfoldable pub integer_of : List ℕ → Option Numeral
integer_of text = numeral_of (without_suffix text)

-- ---- their values

abbrev pub width_of : WholeKind → Width
width_of whole.Int = w32
width_of whole.Long = w64

-- one more than the greatest number of the type, which has as many negative ones
abbrev pub half : WholeKind → ℕ
half whole.Int = 2 ^ 31
half whole.Long = 2 ^ 63

-- a decimal one up to the greatest number of its type; any other up to that many bits, in two's complement
unfoldable pub positive : WholeKind → Numeral → Option ℤ
positive kind n =
    if n.radix == 10 then (if nat_lt n.number (half kind) then Some (pos n.number) else None)
    else if nat_lt n.number (2 * half kind) then Some (cast_signed (width_of kind) n.number)
    else None

-- behind a `-` a decimal one may be greater by one, and any other is negated in its number of bits
unfoldable pub negative : WholeKind → Numeral → Option ℤ
negative kind n =
    if n.radix == 10 then (if nat_le n.number (half kind) then Some (neg_ℤ (pos n.number)) else None)
    else if nat_lt n.number (2 * half kind) then Some (int_wrapping_neg (width_of kind) (cast_signed (width_of kind) n.number))
    else None
