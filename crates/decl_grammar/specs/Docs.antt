-- The text of a doc comment: its markers are removed, and on each line after the first the white space at its front and the asterisks after that. A line ends in a LF.
use Rattle.std.specs.Prelude.{ℕ, ◌==◌, ◌||◌, ◌&&◌, ◌-◌, Bool, false, List, [], ◌∷◌, ◌++◌, length, take, drop, if◌then◌else◌}
use Rattle.std.specs.Str.{chars, encode_utf8_all}
use Rattle.decl_grammar.specs.declared.line_place.LinePlace.{LinePlace}
use Rattle.decl_grammar.specs.declared.line_place.LinePlace.TheVariants.{Margin, Asterisks, Inside}

abbrev pub is_blank : ℕ → Bool
is_blank c = (c == 32) || ((c == 9) || (c == 12))

-- what stands for a character where line ends are LF: a LF directly behind a CR ends no line of its own
abbrev pub line_fed : Bool → ℕ → List ℕ
line_fed after_return c = if c == 13 then 10 ∷ [] else if after_return && (c == 10) then [] else c ∷ []

-- the line ends of a text as one LF each, behind a CR or not
abbrev pub with_line_feeds : Bool → List ℕ → List ℕ
with_line_feeds after_return [] = []
with_line_feeds after_return (c ∷ cs) = line_fed after_return c ++ with_line_feeds (c == 13) cs

-- where in its line the character behind this one stands
abbrev pub place_after : LinePlace → ℕ → LinePlace
place_after Inside c = if c == 10 then Margin else Inside
place_after Asterisks c = if c == 10 then Margin else if c == 42 then Asterisks else Inside
place_after Margin c = if c == 10 then Margin else if is_blank c then Margin else if c == 42 then Asterisks else Inside

-- a character, but none of those at the front of a line
abbrev pub kept_at : LinePlace → ℕ → List ℕ
kept_at Inside c = c ∷ []
kept_at Asterisks c = if c == 42 then [] else c ∷ []
kept_at Margin c = if is_blank c then [] else if c == 42 then [] else c ∷ []

-- its bytes
abbrev pub kept_bytes : LinePlace → ℕ → List ℕ
kept_bytes place c = encode_utf8_all (kept_at place c)

-- what is kept of a text that begins at such a place
abbrev pub unmargined : LinePlace → List ℕ → List ℕ
unmargined place [] = []
unmargined place (c ∷ cs) = kept_at place c ++ unmargined (place_after place c) cs

-- what stands between the markers
abbrev pub unmarked : List ℕ → List ℕ
unmarked cs = take (length cs - 2 - 3) (drop 3 cs)

abbrev pub doc_text : List ℕ → List ℕ
doc_text raw = encode_utf8_all (unmargined Inside (with_line_feeds false (unmarked (chars raw))))
