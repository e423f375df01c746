-- What characters that were read show: each with its offset.
-- The place of a character in the text is how many bytes of UTF-8 are before it. Its offset in the file is further on by the bytes that the
-- escapes before it have more than the characters that they give.
use Rattle.std.specs.Prelude.{ℕ, ◌+◌, ◌≤◌, List, [], ◌∷◌, map, leb, if◌then◌else◌, ⊤}
use Rattle.std.specs.List.{zip, All}
use Rattle.std.specs.List.Sorted.{IsNonDecreasingBy}
use Rattle.std.specs.Char.{len_utf8}
use Rattle.std.specs.Str.{chars}
use Rattle.java_tokens.specs.declared.fault.TextFault.{TextFault}
use Rattle.java_tokens.specs.declared.fault.TextFault.TheVariants.{Bad, Memory}
use Rattle.java_tokens.specs.declared.shift.Shift.{Shift}
use Rattle.java_tokens.specs.declared.reading.Read.{Read}
use Rattle.java_tokens.specs.Characters.{Placed, HasChar}

-- the places of characters of which the first has this one
abbrev pub places_from : ℕ → List ℕ → List ℕ
places_from place [] = []
places_from place (c ∷ cs) = place ∷ places_from (place + len_utf8 c) cs

-- what the last shift says that begins at or before a place, or else `by`
abbrev pub shift_from : ℕ → List Shift → ℕ → ℕ
shift_from by [] place = by
shift_from by (s ∷ ss) place = shift_from (if leb s.place place then s.by else by) ss place

-- what is to be added to a place to give the offset: what the last shift says that begins at or before it, and 0 where there is none
abbrev pub shift_at : List Shift → ℕ → ℕ
shift_at shifts place = shift_from 0 shifts place

-- the offset of each character
abbrev pub offsets_of : List ℕ → List Shift → List ℕ
offsets_of codes shifts = map (λ place. place + shift_at shifts place) (places_from 0 codes)

-- each character of a text with its offset
abbrev pub placed_chars : List ℕ → List Shift → List Placed
placed_chars text shifts = zip (chars text) (offsets_of (chars text) shifts)

-- the places of shifts ascend
abbrev pub Ascend : List Shift → Type 0
Ascend shifts = IsNonDecreasingBy (λ s. s.place) shifts

-- no shift is further than this
abbrev pub AreWithin : ℕ → List Shift → Type 0
AreWithin most shifts = All (λ s. s.by ≤ most) shifts

-- a text begins with what was read
abbrev pub HasRead : ℕ → List ℕ → Read → Type 0
HasRead slashes text read = HasChar slashes text read.width read.code

-- what a fault says of its place; out of memory says nothing
abbrev pub FaultAt : (ℕ → Type 0) → TextFault → Type 0
FaultAt P (Bad place) = P place
FaultAt P Memory = ⊤
