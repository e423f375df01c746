-- Forms that are made of other forms, and their readers. A reader gives the value that stands next and the bytes after it.
use Rattle.std.specs.Prelude.{ℕ, zero, suc, Bool, true, ◌&&◌, List, [], ◌∷◌, ◌++◌, length, Option, Some, None, nat_lt, if◌then◌else◌}
use Rattle.std.specs.List.{flat_map, list_all}
use Rattle.std.specs.Int.{w16, w32, to_be_bytes}
use Rattle.apt_base.specs.Fields.{◌>>=◌, text_form, is_text, u8_next, u32_next, bool_next}

abbrev pub Reader : Type 0 → Type 0
Reader A = List ℕ → Option (A × List ℕ)

-- ---- spellings

unfoldable pub name_form : List ℕ → List ℕ
name_form text = text_form text

unfoldable pub u16_form : ℕ → List ℕ
u16_form n = to_be_bytes w16 n

unfoldable pub count_form : ℕ → List ℕ
count_form n = to_be_bytes w32 n

-- how many items there are, and the items
abbrev pub list_form : {A : Type 0} → (A → List ℕ) → List A → List ℕ
list_form form items = count_form (length items) ++ flat_map form items

-- 0, or 1 and a value
abbrev pub opt_form : {A : Type 0} → (A → List ℕ) → Option A → List ℕ
opt_form form None = 0 ∷ []
opt_form form (Some x) = 1 ∷ form x

-- ---- what has a spelling

-- the length of a text or of a list fits its four bytes
abbrev pub is_short : {A : Type 0} → List A → Bool
is_short items = nat_lt (length items) 0x1_0000_0000

abbrev pub is_name : List ℕ → Bool
is_name text = is_text text && is_short text

abbrev pub all_fit : {A : Type 0} → (A → Bool) → List A → Bool
all_fit fits items = is_short items && list_all fits items

abbrev pub fits_if_some : {A : Type 0} → (A → Bool) → Option A → Bool
fits_if_some fits None = true
fits_if_some fits (Some x) = fits x

-- ---- readers

abbrev pub none_next : {A : Type 0} → Reader A
none_next bytes = None

-- a value, and then one of a form that it may decide
abbrev pub then_by : {A B : Type 0} → Reader A → (A → Reader B) → Reader (A × B)
then_by first second bytes = do
  a ← first bytes
  b ← second a.0 a.1
  Some ((a.0, b.0), b.1)

-- one value and then another
infixl 10 ◌>>◌
abbrev pub ◌>>◌ : {A B : Type 0} → Reader A → Reader B → Reader (A × B)
first >> second = then_by first (λ a. second)

-- what is made of the value
abbrev pub mapped : {A B : Type 0} → (A → B) → Reader A → Reader B
mapped make next bytes = do
  a ← next bytes
  Some (make a.0, a.1)

-- a value that passes a test
abbrev pub checked : {A : Type 0} → (A → Bool) → Reader A → Reader A
checked test next bytes = do
  a ← next bytes
  if test a.0 then Some a else None

-- one byte, and what it is the number of
abbrev pub numbered : {A : Type 0} → (ℕ → Option A) → Reader A
numbered of bytes = do
  n ← u8_next bytes
  a ← of n.0
  Some (a, n.1)

-- one byte, and a value of the variant with that number
abbrev pub tagged : {A : Type 0} → (ℕ → Reader A) → Reader A
tagged choose bytes = do
  n ← u8_next bytes
  choose n.0 n.1

unfoldable pub opt_next : {A : Type 0} → Reader A → Reader (Option A)
opt_next next bytes = do
  is_there ← bool_next bytes
  if is_there.0 then mapped Some next is_there.1 else Some (None, is_there.1)

-- this many values
unfoldable pub items_next : {A : Type 0} → Reader A → ℕ → Reader (List A)
items_next next zero bytes = Some ([], bytes)
items_next next (suc n) bytes = do
  first ← next bytes
  others ← items_next next n first.1
  Some (first.0 ∷ others.0, others.1)

unfoldable pub list_next : {A : Type 0} → Reader A → Reader (List A)
list_next next bytes = do
  count ← u32_next bytes
  items_next next count.0 count.1
