-- A form of fields as one value: how a value of it is spelled, which values have a spelling, and the value that stands next at the front of bytes. A form is made of others by the words below, so that its three parts stand in one line of a table.
use Rattle.std.specs.Prelude.{ℕ, Bool, true, ◌&&◌, ◌==◌, nat_lt, slice_get, List, [], ◌∷◌, ◌++◌, codes, Option, Some, None, if◌then◌else◌}
use Rattle.std.specs.Int.{w16, w32, to_be_bytes}
use Rattle.std.specs.Ordering.{is_lt, nat_cmp}
use Rattle.std.specs.Cmp.Lexicographic.{slice_cmp}
use Rattle.apt_base.specs.Fields.{◌>>=◌, bytes_form, u8_next, u16_next, u32_next, bytes_next, text_next}
use Rattle.apt_base.specs.Forms.{Reader, ◌>>◌, mapped, checked, numbered, opt_next, list_next, name_form, u16_form, opt_form, list_form, is_short, is_name, all_fit, fits_if_some}

pub record Form (A : Type 0) : Type 0 where
  -- its bytes
  pub spelling : A → List ℕ
  -- whether it has a spelling of its own
  pub fits : A → Bool
  -- the value that stands next, and the bytes behind it
  pub next : Reader A

-- ---- fields

-- a number of two bytes
abbrev pub u16 : Form ℕ
u16 = record { spelling = u16_form; fits = λ n. nat_lt n 0x1_0000; next = u16_next }

unfoldable pub u32_form : ℕ → List ℕ
u32_form n = to_be_bytes w32 n

-- a number of four bytes
abbrev pub u32 : Form ℕ
u32 = record { spelling = u32_form; fits = λ n. nat_lt n 0x1_0000_0000; next = u32_next }

-- a text in UTF-8 behind its length
abbrev pub text : Form (List ℕ)
text = record { spelling = name_form; fits = is_name; next = text_next }

unfoldable pub octets_form : List ℕ → List ℕ
octets_form bytes = bytes_form bytes

-- bytes behind their number
abbrev pub octets : Form (List ℕ)
octets = record { spelling = octets_form; fits = is_short; next = bytes_next }

-- one byte, which is a number below the bound
abbrev pub u8_below : ℕ → Form ℕ
u8_below bound = record { spelling = λ n. n ∷ []; fits = λ n. nat_lt n bound; next = checked (λ n. nat_lt n bound) u8_next }

-- one byte, which is the number of one of these things, counted from 0
abbrev pub in_order : {A : Type 0} → (A → ℕ) → List A → Form A
in_order number_of things = record { spelling = λ thing. number_of thing ∷ []; fits = λ thing. true; next = numbered (slice_get things) }

-- ---- made of other forms

-- 0, or 1 and a value
abbrev pub opt : {A : Type 0} → Form A → Form (Option A)
opt form = record { spelling = opt_form form.spelling; fits = fits_if_some form.fits; next = opt_next form.next }

-- a count and that many values
abbrev pub list : {A : Type 0} → Form A → Form (List A)
list form = record { spelling = list_form form.spelling; fits = all_fit form.fits; next = list_next form.next }

-- a value of one form and behind it one of another
infixl 10 ◌then◌
abbrev pub ◌then◌ : {A B : Type 0} → Form A → Form B → Form (A × B)
first then second = record { spelling = λ x. first.spelling x.0 ++ second.spelling x.1; fits = λ x. first.fits x.0 && second.fits x.1; next = first.next >> second.next }

-- the same bytes, for the value that is made of theirs
abbrev pub made : {A B : Type 0} → (A → B) → (B → A) → Form A → Form B
made make parts form = record { spelling = λ x. form.spelling (parts x); fits = λ x. form.fits (parts x); next = mapped make form.next }

-- a value of which more is asked
abbrev pub that : {A : Type 0} → (A → Bool) → Form A → Form A
that test form = record { spelling = form.spelling; fits = λ x. form.fits x && test x; next = checked test form.next }

-- ---- lists that ascend

-- the item is greater than the one before it, where there is one
abbrev pub is_above : {A : Type 0} → (A → A → Bool) → Option A → A → Bool
is_above less None item = true
is_above less (Some last) item = less last item

-- each item is greater than the one before it, and the first one greater than the last one before them
abbrev pub ascends_after : {A : Type 0} → (A → A → Bool) → Option A → List A → Bool
ascends_after less last [] = true
ascends_after less last (item ∷ others) = is_above less last item && ascends_after less (Some item) others

abbrev pub ascends : {A : Type 0} → (A → A → Bool) → List A → Bool
ascends less items = ascends_after less None items

-- a list that ascends strictly
abbrev pub ascending : {A : Type 0} → (A → A → Bool) → Form A → Form (List A)
ascending less form = that (ascends less) (list form)

-- by their bytes
abbrev pub text_less : List ℕ → List ℕ → Bool
text_less a b = is_lt (slice_cmp nat_cmp a b)
