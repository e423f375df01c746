-- The forms of fields, each with the values that it has, their spelling, and what stands at the front of bytes. Numbers have their big end first.
use Rattle.std.specs.Prelude.{◌≡◌, ℕ, zero, suc, ◌^◌, ◌<◌, Bool, true, false, ℤ, List, [], ◌∷◌, ◌++◌, length, Option, Some, None, FitsSigned}
use Rattle.std.specs.Int.{w16, w32, w64, to_be_bytes, cast_signed}
use Rattle.apt_base.specs.Fields.{i64_form, bytes_form}
use Rattle.apt_base.specs.declared.element.ElementRef.{ElementRef}
use Rattle.apt_base.specs.declared.kinds.Claim.{Claim}
use Rattle.type_mirror.specs.declared.mirror.PrimitiveKind.{PrimitiveKind}
use Rattle.type_mirror.specs.declared.mirror.Mirror.{Mirror}
use Rattle.type_mirror.specs.declared.value.WholeKind.{WholeKind}
use Rattle.type_mirror.specs.declared.value.Value.{Value}
use Rattle.type_mirror.specs.declared.value.Annotation.{Annotation}
use Rattle.type_mirror.specs.declared.value.NamedValue.{NamedValue}
use Rattle.frame_forms.specs.declared.bad_kind.BadKind.{BadKind}
use Rattle.frame_forms.specs.declared.bad_kind.BadKind.TheVariants as kinds
use Rattle.frame_forms.specs.declared.question_row.QuestionRow.{QuestionRow}
use Rattle.frame_forms.specs.Scans.{Scan, whole, and_then, mapped, number_scan, byte_scan, run_scan, opt_scan, items_scan}

-- ---- values

-- what a mirror may be
pub data MirrorVariant : Type 0 where
  primitive declared error variable array wildcard executable nothing_there void null package_mirror : MirrorVariant

-- how a wildcard is bounded
pub data BoundKind : Type 0 where
  unbounded upper lower : BoundKind

-- what a value may be
pub data ValueVariant : Type 0 where
  truth_value whole_value character text_value class_value constant array_value nested other floating : ValueVariant

-- what a frame may be: a question, or another frame by its tag
pub data FrameKind : Type 0 where
  plain_frame : (tag : ℕ) → FrameKind
  question_frame : (row : QuestionRow) → FrameKind

-- what one byte may be the number of
pub data Sort : Type 0 where
  plain truth certain claim primitive_kind whole_kind mirror_variant bound_kind value_variant frame_kind : Sort

abbrev pub One : Sort → Type 0
One plain = ℕ
One truth = Bool
One certain = Unit {0}
One claim = Claim
One primitive_kind = PrimitiveKind
One whole_kind = WholeKind
One mirror_variant = MirrorVariant
One bound_kind = BoundKind
One value_variant = ValueVariant
One frame_kind = FrameKind

-- the kinds of values
pub data Code : Type 0 where
  nothing number integer octets element mirror value named_value annotation : Code
  one : Sort → Code
  pair : Code → Code → Code
  maybe many : Code → Code
  -- a thing that one byte is the number of, and a value of the kind that it has
  chosen : (s : Sort) → (One s → Code) → Code

abbrev pub El : Code → Type 0
El nothing = Unit {0}
El number = ℕ
El integer = ℤ
El octets = List ℕ
El element = ElementRef
El mirror = Mirror
El value = Value
El named_value = NamedValue
El annotation = Annotation
El (one s) = One s
El (pair c d) = El c × El d
El (maybe c) = Option (El c)
El (many c) = List (El c)
El (chosen s of) = (x : One s) × El (of x)

-- ---- forms

-- things with a number of one byte each, and the thing that a byte is the number of
pub record Numbering (A : Type 0) : Type 0 where
  pub number_of : A → ℕ
  pub at : ℕ → Option A

-- the forms that hold themselves
pub data Part : Code → Type 0 where
  mirror_part : Part mirror
  value_part : Part value

pub data Form : Code → Type 0 where
  empty : Form nothing
  -- one byte, bad in this way where it is the number of nothing
  byte : (s : Sort) → BadKind → Numbering (One s) → Form (one s)
  u16 u32 : Form number
  i64 : Form integer
  -- a length of four bytes and that many bytes, of which the last one is bad where they have a fault
  run : (List ℕ → Option BadKind) → Form octets
  -- a value of the first form with one of the second behind it
  both : {c d : Code} → Form c → Form d → Form (pair c d)
  -- one byte, and a value of the form that it is the number of
  choice : (s : Sort) → BadKind → Numbering (One s) → (of : One s → Code) → ((x : One s) → Form (of x)) → Form (chosen s of)
  -- 0, or 1 and a value
  opt : {c : Code} → Form c → Form (maybe c)
  -- a count of four bytes and that many items; the form of an item may depend on those before it, of which the last one comes first
  list : {c : Code} → (List (El c) → Form c) → Form (many c)
  part : {c : Code} → Part c → Form c
  -- the same bytes, for the value that is made of theirs
  means : {c d : Code} → (El c → El d) → (El d → El c) → Form c → Form d

-- ---- which values have a spelling

abbrev pub PartFits : Type 1
PartFits = (c : Code) → Part c → El c → Type 0

abbrev pub OptFits : {A : Type 0} → (A → Type 0) → Option A → Type 0
OptFits fits None = Unit {0}
OptFits fits (Some a) = fits a

abbrev pub EachFits : {A : Type 0} → (List A → A → Type 0) → List A → List A → Type 0
EachFits fits before [] = Unit {0}
EachFits fits before (first ∷ others) = fits before first × EachFits fits (first ∷ before) others

abbrev pub fits_with : PartFits → {c : Code} → Form c → El c → Type 0
fits_with inner empty v = Unit {0}
fits_with inner (byte s kind numbers) v = numbers.at (numbers.number_of v) ≡ Some v
fits_with inner u16 v = v < 2 ^ 16
fits_with inner u32 v = v < 2 ^ 32
fits_with inner i64 v = FitsSigned w64 v
fits_with inner (run fault) v = (fault v ≡ None) × (length v < 2 ^ 32)
fits_with inner (both f g) v = fits_with inner f v.0 × fits_with inner g v.1
fits_with inner (choice s kind numbers of f) v = (numbers.at (numbers.number_of v.0) ≡ Some v.0) × fits_with inner (f v.0) v.1
fits_with inner (opt {c} f) v = OptFits {A = El c} (fits_with inner f) v
fits_with inner (list {c} f) v = (length v < 2 ^ 32) × EachFits {A = El c} (λ before. fits_with inner (f before)) [] v
fits_with inner (part {c} p) v = inner c p v
fits_with inner (means make show f) v = fits_with inner f (show v)

-- ---- spelling

abbrev pub PartSpellings : Type 0
PartSpellings = (c : Code) → Part c → El c → List ℕ

abbrev pub opt_spelling : {A : Type 0} → (A → List ℕ) → Option A → List ℕ
opt_spelling spelling None = 0 ∷ []
opt_spelling spelling (Some a) = 1 ∷ spelling a

abbrev pub items_spelling : {A : Type 0} → (List A → A → List ℕ) → List A → List A → List ℕ
items_spelling spelling before [] = []
items_spelling spelling before (first ∷ others) = spelling before first ++ items_spelling spelling (first ∷ before) others

abbrev pub spelled_with : PartSpellings → {c : Code} → Form c → El c → List ℕ
spelled_with inner empty v = []
spelled_with inner (byte s kind numbers) v = numbers.number_of v ∷ []
spelled_with inner u16 v = to_be_bytes w16 v
spelled_with inner u32 v = to_be_bytes w32 v
spelled_with inner i64 v = i64_form v
spelled_with inner (run fault) v = bytes_form v
spelled_with inner (both f g) v = spelled_with inner f v.0 ++ spelled_with inner g v.1
spelled_with inner (choice s kind numbers of f) v = numbers.number_of v.0 ∷ spelled_with inner (f v.0) v.1
spelled_with inner (opt {c} f) v = opt_spelling {A = El c} (spelled_with inner f) v
spelled_with inner (list {c} f) v = to_be_bytes w32 (length v) ++ items_spelling {A = El c} (λ before. spelled_with inner (f before)) [] v
spelled_with inner (part {c} p) v = inner c p v
spelled_with inner (means make show f) v = spelled_with inner f (show v)

-- ---- reading, up to the first bad byte

abbrev pub PartScans : Type 0
PartScans = (c : Code) → Part c → List ℕ → Scan (El c)

abbrev pub bool_at : ℕ → Option Bool
bool_at zero = Some false
bool_at (suc zero) = Some true
bool_at (suc (suc n)) = None

abbrev pub scan_with : PartScans → {c : Code} → Form c → List ℕ → Scan (El c)
scan_with inner empty bytes = whole tt bytes
scan_with inner (byte s kind numbers) bytes = byte_scan kind numbers.at bytes
scan_with inner u16 bytes = number_scan w16 bytes
scan_with inner u32 bytes = number_scan w32 bytes
scan_with inner i64 bytes = mapped (cast_signed w64) (number_scan w64 bytes)
scan_with inner (run fault) bytes = run_scan fault bytes
scan_with inner (both {c} {d} f g) bytes = and_then {B = El c × El d} (scan_with inner f bytes) (λ v rest. mapped (λ w. (v, w)) (scan_with inner g rest))
scan_with inner (choice s kind numbers of f) bytes = and_then {B = (x : One s) × El (of x)} (byte_scan kind numbers.at bytes) (λ x rest. mapped (λ v. (x, v)) (scan_with inner (f x) rest))
scan_with inner (opt {c} f) bytes = and_then (byte_scan kinds.Field bool_at bytes) (λ is_there rest. opt_scan {A = El c} (scan_with inner f) is_there rest)
scan_with inner (list {c} f) bytes = and_then (number_scan w32 bytes) (λ count rest. items_scan {A = El c} (λ before. scan_with inner (f before)) [] count rest)
scan_with inner (part {c} p) bytes = inner c p bytes
scan_with inner (means make show f) bytes = mapped make (scan_with inner f bytes)
