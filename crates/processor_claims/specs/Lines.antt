-- The lines of a text file of the configuration, and what they say. A tab is 9, LF 10, CR 13, a space 32 and `#` 35.
use Rattle.std.specs.Prelude.{◌≡◌, ℕ, suc, ◌+◌, Bool, false, ◌&&◌, ◌||◌, ◌==◌, List, [], ◌∷◌, Option, Some, None, Result, Ok, Err, is_some, if◌then◌else◌}
use Rattle.std.specs.List.{before_first, onto_first, filter_map}
use Rattle.apt_base.specs.Fields.{is_text}
use Rattle.apt_base.specs.Identifiers.{is_dotted}
use Rattle.processor_claims.specs.declared.fault.LineFault.{LineFault}
use Rattle.processor_claims.specs.declared.fault.LineFault.TheVariants.{Bad, Memory}

abbrev pub is_line_end : ℕ → Bool
is_line_end c = (c == 10) || (c == 13)

-- the lines of a text. A line ends at CR LF, at CR or at LF: a LF directly behind a CR ends no line of its own
unfoldable pub lines_behind : Bool → List ℕ → List (List ℕ)
lines_behind cr [] = []
lines_behind cr (c ∷ cs) =
    if cr && (c == 10) then lines_behind false cs
    else (if is_line_end c then [] ∷ lines_behind (c == 13) cs else onto_first c (lines_behind false cs))

abbrev pub lines : List ℕ → List (List ℕ)
lines text = lines_behind false text

-- the lines behind a line end with which a text begins
abbrev pub lines_after : List ℕ → List (List ℕ)
lines_after [] = []
lines_after (c ∷ cs) = lines_behind (c == 13) cs

abbrev pub is_blank : ℕ → Bool
is_blank c = (c == 9) || (c == 32)

-- without the blanks at its front
unfoldable pub trimmed_front : List ℕ → List ℕ
trimmed_front [] = []
trimmed_front (c ∷ cs) = if is_blank c then trimmed_front cs else c ∷ cs

abbrev pub onto_trimmed : ℕ → List ℕ → List ℕ
onto_trimmed c [] = if is_blank c then [] else c ∷ []
onto_trimmed c (d ∷ ds) = c ∷ d ∷ ds

-- without the blanks at its end
unfoldable pub trimmed_end : List ℕ → List ℕ
trimmed_end [] = []
trimmed_end (c ∷ cs) = onto_trimmed c (trimmed_end cs)

abbrev pub trimmed : List ℕ → List ℕ
trimmed text = trimmed_end (trimmed_front text)

-- what a line says: what stands before its comment, without the blanks around it
unfoldable pub content : List ℕ → List ℕ
content line = trimmed (before_first (λ c. c == 35) line)

abbrev pub onto_said : ℕ → List ℕ → List (ℕ × List ℕ) → List (ℕ × List ℕ)
onto_said number [] later = later
onto_said number (c ∷ cs) later = (number, c ∷ cs) ∷ later

-- what lines say that say something, each with the number of its line, counted from `number`
unfoldable pub said : ℕ → List (List ℕ) → List (ℕ × List ℕ)
said number [] = []
said number (line ∷ more) = onto_said number (content line) (said (suc number) more)

-- the first line of a text that says something has this number and says this, and this is the text behind it
abbrev pub SaysFirst : ℕ → List ℕ → ℕ → List ℕ → List ℕ → Type 0
SaysFirst number file at text rest = said number (lines file) ≡ (at, text) ∷ said (at + 1) (lines rest)

-- what the lines of a file say, of which the first has the number 1
abbrev pub said_in : List ℕ → List (ℕ × List ℕ)
said_in file = said 1 (lines file)

-- the name that a text is: identifiers joined by dots
unfoldable pub name_in : List ℕ → Option (List ℕ)
name_in text = if is_text text && is_dotted text then Some text else None

module _ {A : Type 0} (read : List ℕ → Option A) where
  -- the number of the first line that has no reading
  abbrev pub first_bad : List (ℕ × List ℕ) → Option ℕ
  first_bad [] = None
  first_bad (line ∷ more) = if is_some (read line.1) then first_bad more else Some line.0

  -- the readings of the lines that have one
  abbrev pub readings : List (ℕ × List ℕ) → List A
  readings lines = filter_map (λ line. read line.1) lines

-- the answer of a reader of a file: `Bad` exactly where a line is bad, with the first such line, and else the value; memory may want
abbrev pub Answers : {A : Type 0} → Result A LineFault → Option ℕ → A → Type 0
Answers (Ok x) bad value = (bad ≡ None) × (x ≡ value)
Answers (Err (Bad line)) bad value = bad ≡ Some line
Answers (Err Memory) bad value = Unit {0}
