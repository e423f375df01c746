-- The values of literals (JLS 3.10), each by its text alone: whatever type is wanted, nothing is converted. A text that is no literal has no value, and is kept.
use Rattle.std.specs.Prelude.{ℕ, ◌==◌, ◌||◌, Bool, true, false, ℤ, List, [], ◌∷◌, ◌++◌}
use Rattle.std.specs.Prelude.{codes, chars, encode_utf8_all, Option, None, Some, option_and_then, if◌then◌else◌}
use Rattle.std.specs.Option.{option_map_or}
use Rattle.std.specs.Char.{is_ascii_digit}
use Rattle.std.specs.Str.{bytes_eq}
use Rattle.type_mirror.specs.declared.value.WholeKind.{WholeKind}
use Rattle.type_mirror.specs.declared.value.Value.{Value}
use Rattle.type_mirror.specs.declared.value.Value.TheVariants as value
use Rattle.literal_values.specs.declared.quoted.Reading.TheVariants.{Plain}
use Rattle.literal_values.specs.Floating.{is_floating}
use Rattle.literal_values.specs.Numerals.{Numeral, whole_kind, integer_of, positive, negative}
use Rattle.literal_values.specs.Quoted.{unquoted, only_character}

-- ---- numerals

-- a number, or the text where there is none
abbrev pub whole_or : List ℕ → WholeKind → Option ℤ → Value
whole_or text kind None = value.Other text
whole_or text kind (Some z) = value.Whole kind z

-- a numeral begins with a digit or a dot
abbrev pub begins_numeral : List ℕ → Bool
begins_numeral [] = false
begins_numeral (c ∷ cs) = is_ascii_digit c || (c == 46)

-- a floating-point literal keeps its text, and so does what is no literal at all
abbrev pub floating_or : List ℕ → List ℕ → Bool → Value
floating_or literal other is_literal = if is_literal then value.Floating literal else value.Other other

abbrev pub numeral_value : List ℕ → Option Numeral → Value
numeral_value text None = floating_or text text (is_floating text)
numeral_value text (Some n) = whole_or text (whole_kind text) (positive (whole_kind text) n)

-- behind a `-`: two tokens are joined by a space, and a `-` stands directly before a floating-point literal
abbrev pub negated_numeral : List ℕ → Option Numeral → Value
negated_numeral text None = floating_or (codes "-" ++ text) (codes "- " ++ text) (is_floating text)
negated_numeral text (Some n) = whole_or (codes "- " ++ text) (whole_kind text) (negative (whole_kind text) n)

unfoldable pub negated_value : List ℕ → Value
negated_value text = if begins_numeral text then negated_numeral text (integer_of text) else value.Other (codes "- " ++ text)

-- ---- characters and texts

abbrev pub character_value : List ℕ → Option (List ℕ) → Value
character_value text found = option_map_or value.Character (option_and_then only_character found) (value.Other text)

abbrev pub text_value : List ℕ → Option (List ℕ) → Value
text_value text found = option_map_or (λ cs. value.Text (encode_utf8_all cs)) found (value.Other text)

-- a text block (JLS 3.10.6 of later editions) begins as an empty text with more behind it, so that it keeps its text
unfoldable pub quoted_value : List ℕ → List ℕ → Value
quoted_value text [] = value.Other text
quoted_value text (c ∷ cs) =
    if c == 39 then character_value text (unquoted 39 Plain cs)
    else if c == 34 then text_value text (unquoted 34 Plain cs)
    else value.Other text

-- ---- all literals

-- `null` (JLS 3.10.7) is the value of no element, and keeps its text
unfoldable pub literal_value : List ℕ → Value
literal_value text =
    if bytes_eq text (codes "true") then value.Truth true
    else if bytes_eq text (codes "false") then value.Truth false
    else if begins_numeral text then numeral_value text (integer_of text)
    else quoted_value text (chars text)
