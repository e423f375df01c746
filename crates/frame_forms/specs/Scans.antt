-- What stands at the front of bytes, for something that is spelled there: a value and the bytes behind it, the beginning of one, or a first byte that is bad.
use Rattle.std.specs.Prelude.{ℕ, zero, suc, ◌+◌, Bool, true, false, List, [], ◌∷◌, length, take, drop, nat_lt, Option, Some, None, if◌then◌else◌}
use Rattle.std.specs.Int.{Width, w32, byte_len, from_be_bytes}
use Rattle.frame_forms.specs.declared.bad_kind.BadKind.{BadKind}

pub data Scan (A : Type 0) : Type 0 where
  -- a value, and the bytes behind it
  whole : A → List ℕ → Scan A
  -- the bytes end before the value does, and none of them is bad
  begun : Scan A
  -- the bytes from the first bad one on, and what is wrong with that one
  bad : List ℕ → BadKind → Scan A

-- what stands behind a value, by that value
abbrev pub and_then : {A B : Type 0} → Scan A → (A → List ℕ → Scan B) → Scan B
and_then (whole a rest) next = next a rest
and_then begun next = begun
and_then (bad rest kind) next = bad rest kind

abbrev pub mapped : {A B : Type 0} → (A → B) → Scan A → Scan B
mapped make (whole a rest) = whole (make a) rest
mapped make begun = begun
mapped make (bad rest kind) = bad rest kind

-- ---- bytes and numbers

-- this many bytes, whatever they are
abbrev pub front_scan : ℕ → List ℕ → Scan (List ℕ)
front_scan count bytes = if nat_lt (length bytes) count then begun else whole (take count bytes) (drop count bytes)

unfoldable pub number_scan : Width → List ℕ → Scan ℕ
number_scan w bytes = and_then (front_scan (byte_len w) bytes) (λ front rest. whole (from_be_bytes w front) rest)

-- what a byte is the number of, or a bad byte
abbrev pub named : {A : Type 0} → BadKind → Option A → ℕ → List ℕ → Scan A
named kind (Some a) byte rest = whole a rest
named kind None byte rest = bad (byte ∷ rest) kind

unfoldable pub byte_scan : {A : Type 0} → BadKind → (ℕ → Option A) → List ℕ → Scan A
byte_scan kind of [] = begun
byte_scan kind of (byte ∷ rest) = named kind (of byte) byte rest

-- ---- runs of bytes

-- a run without a fault, or a bad last byte
abbrev pub judged : Option BadKind → List ℕ → List ℕ → List ℕ → Scan (List ℕ)
judged None run rest last = whole run rest
judged (Some kind) run rest last = bad last kind

-- a length of four bytes, and that many bytes; the last byte of an empty run is that of its length
unfoldable pub run_scan : (List ℕ → Option BadKind) → List ℕ → Scan (List ℕ)
run_scan fault bytes = and_then (number_scan w32 bytes) (λ count rest. and_then (front_scan count rest) (λ run behind. judged (fault run) run behind (drop (count + 3) bytes)))

-- ---- none or one, and any number

abbrev pub opt_scan : {A : Type 0} → (List ℕ → Scan A) → Bool → List ℕ → Scan (Option A)
opt_scan item false bytes = whole None bytes
opt_scan item true bytes = mapped Some (item bytes)

-- this many items; the form of an item may depend on those before it, of which the last one comes first
unfoldable pub items_scan : {A : Type 0} → (List A → List ℕ → Scan A) → List A → ℕ → List ℕ → Scan (List A)
items_scan item before zero bytes = whole [] bytes
items_scan item before (suc count) bytes = and_then (item before bytes) (λ first rest. mapped (λ others. first ∷ others) (items_scan item (first ∷ before) count rest))
