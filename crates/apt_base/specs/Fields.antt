-- The spelling of forms of field, and the value of a form that stands next at the front of bytes. `Forms` has those of numbers of two bytes and of counts.
-- Numbers have their big end first. A reader gives the value and the bytes after it, and nothing where no value of its form stands next.
use Rattle.std.specs.Prelude.{ℕ, zero, suc, Bool, true, false, ℤ, List, [], ◌∷◌, ◌++◌, length, take, drop, Option, Some, None, nat_lt, if◌then◌else◌}
use Rattle.std.specs.Int.{Width, w16, w32, w64, byte_len, from_be_bytes, to_be_bytes, cast_signed, cast_unsigned}
use Rattle.std.specs.Str.{is_utf8}

infixl 10 ◌>>=◌
abbrev pub ◌>>=◌ : {A B : Type 0} → Option A → (A → Option B) → Option B
(Some x) >>= f = f x
None >>= f = None

-- ---- spellings

-- a whole number that may be negative, in two's complement
abbrev pub i64_form : ℤ → List ℕ
i64_form z = to_be_bytes w64 (cast_unsigned w64 z)

-- one byte, 0 or 1
abbrev pub bool_form : Bool → List ℕ
bool_form false = 0 ∷ []
bool_form true = 1 ∷ []

-- four bytes of length, and that many bytes
abbrev pub bytes_form : List ℕ → List ℕ
bytes_form bytes = to_be_bytes w32 (length bytes) ++ bytes

-- the same, of the bytes of a text in UTF-8
abbrev pub text_form : List ℕ → List ℕ
text_form text = bytes_form text

-- ---- readers

-- the bytes are a text in UTF-8
abbrev pub is_text : List ℕ → Bool
is_text bytes = is_utf8 bytes

-- this many bytes from the front
abbrev pub front_next : ℕ → List ℕ → Option (List ℕ × List ℕ)
front_next count bytes = if nat_lt (length bytes) count then None else Some (take count bytes, drop count bytes)

-- the number that the bytes at the front spell at this width
abbrev pub number_next : Width → List ℕ → Option (ℕ × List ℕ)
number_next w bytes = do
  front ← front_next (byte_len w) bytes
  Some (from_be_bytes w front.0, front.1)

unfoldable pub u8_next : List ℕ → Option (ℕ × List ℕ)
u8_next [] = None
u8_next (byte ∷ rest) = Some (byte, rest)

unfoldable pub u16_next : List ℕ → Option (ℕ × List ℕ)
u16_next bytes = number_next w16 bytes

unfoldable pub u32_next : List ℕ → Option (ℕ × List ℕ)
u32_next bytes = number_next w32 bytes

unfoldable pub i64_next : List ℕ → Option (ℤ × List ℕ)
i64_next bytes = do
  n ← number_next w64 bytes
  Some (cast_signed w64 n.0, n.1)

unfoldable pub bool_next : List ℕ → Option (Bool × List ℕ)
bool_next [] = None
bool_next (zero ∷ rest) = Some (false, rest)
bool_next (suc zero ∷ rest) = Some (true, rest)
bool_next (suc (suc byte) ∷ rest) = None

unfoldable pub bytes_next : List ℕ → Option (List ℕ × List ℕ)
bytes_next bytes = do
  count ← u32_next bytes
  front_next count.0 count.1

unfoldable pub text_next : List ℕ → Option (List ℕ × List ℕ)
text_next bytes = do
  text ← bytes_next bytes
  if is_text text.0 then Some text else None
