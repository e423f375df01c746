-- The forms of texts: any text, and texts of a list that are asked for more.
use Rattle.std.specs.Prelude.{ℕ, Bool, true, not, ◌&&◌, List, [], ◌∷◌, map, Some, None, if◌then◌else◌}
use Rattle.std.specs.List.{list_any}
use Rattle.std.specs.Str.{bytes_eq}
use Rattle.std.specs.Ordering.{is_lt, nat_cmp}
use Rattle.std.specs.Cmp.Lexicographic.{slice_cmp}
use Rattle.apt_base.specs.Fields.{is_text}
use Rattle.apt_base.specs.Identifiers.{is_pattern}
use Rattle.frame_forms.specs.declared.bad_kind.BadKind.TheVariants as kinds
use Rattle.frame_forms.specs.Forms.{Code, Form, octets, pair, many, run, both, list}

-- bytes, whatever they are
abbrev pub any_bytes : Form octets
any_bytes = run (λ bytes. None)

-- a text in UTF-8 of which more is asked
abbrev pub text_that : (List ℕ → Bool) → Form octets
text_that passes = run (λ text. if is_text text && passes text then None else Some kinds.Field)

abbrev pub text : Form octets
text = text_that (λ text. true)

-- the same, and the text is a pattern
abbrev pub pattern_that : (List ℕ → Bool) → Form octets
pattern_that passes = run (λ text. if is_text text && passes text then (if is_pattern text then None else Some kinds.Pattern) else Some kinds.Field)

-- none of these texts is this one
abbrev pub is_new : List (List ℕ) → List ℕ → Bool
is_new before next = not (list_any (bytes_eq next) before)

-- the text is greater, by its bytes, than the first one of these
abbrev pub is_greater : List (List ℕ) → List ℕ → Bool
is_greater [] next = true
is_greater (last ∷ before) next = is_lt (slice_cmp nat_cmp last next)

-- ---- lists

abbrev pub list_of : {c : Code} → Form c → Form (many c)
list_of form = list (λ before. form)

abbrev pub distinct_texts : Form (many octets)
distinct_texts = list (λ before. text_that (is_new before))

abbrev pub distinct_patterns : Form (many octets)
distinct_patterns = list (λ before. pattern_that (is_new before))

abbrev pub ascending_texts : Form (many octets)
ascending_texts = list (λ before. text_that (is_greater before))

-- texts with a value each, ascending by the texts
abbrev pub ascending_by_key : {c : Code} → Form c → Form (many (pair octets c))
ascending_by_key form = list (λ before. both (text_that (is_greater (map (λ entry. entry.0) before))) form)
