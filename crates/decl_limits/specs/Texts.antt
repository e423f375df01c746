-- Which symbols are those of a text of the size that a file may have: what is made of their texts is in UTF-8, and its length fits four bytes.
use Rattle.std.specs.Prelude.{ℕ, ◌+◌, ◌≤◌, List, [], ◌∷◌, length, Option, None, Some}
use Rattle.std.specs.Option.{option_map_or}
use Rattle.std.specs.Str.{IsUtf8}
use Rattle.std.specs.List.{sum_by}
use Rattle.decl_grammar.specs.declared.symbol.Symbol.{Symbol}

-- the bytes of the text of a symbol and of its doc comment, and a blank
abbrev pub bytes_of : Symbol → ℕ
bytes_of s = length s.text + option_map_or (λ doc. length doc) s.doc 0 + 1

-- few bytes: four times as many still fit four bytes
abbrev pub IsSmall : List Symbol → Type 0
IsSmall ss = sum_by bytes_of ss ≤ 1_073_741_824

abbrev pub IsDocText : Option (List ℕ) → Type 0
IsDocText None = Unit {0}
IsDocText (Some doc) = IsUtf8 doc

-- their texts and doc comments are in UTF-8
abbrev pub AreUtf8 : List Symbol → Type 0
AreUtf8 [] = Unit {0}
AreUtf8 (s ∷ ss) = IsUtf8 s.text × IsDocText s.doc × AreUtf8 ss

-- the symbols of a text that is not too long
abbrev pub AreTexts : List Symbol → Type 0
AreTexts ss = AreUtf8 ss × IsSmall ss
