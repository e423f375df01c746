-- Which byte of a frame is bad, rule by rule: the place is counted from the first byte of the length, so the tag has place 4. The first bad byte counts, and where two rules make one byte bad the earlier one gives its kind.
use Rattle.std.specs.Prelude.{◌≡◌, ◌⊎◌, ℕ, ◌+◌, ◌-◌, ◌<◌, ◌≤◌, ◌^◌, true, false, List, ◌∷◌, ◌++◌, length, drop, Option, Some, None}
use Rattle.std.specs.Int.{w32, from_be_bytes}
use Rattle.apt_base.specs.Fields.{bytes_form}
use Rattle.frame_forms.specs.declared.bad_kind.BadKind.{BadKind}
use Rattle.frame_forms.specs.declared.bad_kind.BadKind.TheVariants as kinds
use Rattle.frame_forms.specs.Scans.{whole, begun, bad}
use Rattle.frame_forms.specs.Forms.{Sort, One, Code, Part, Numbering, byte, run}
use Rattle.frame_forms.specs.FrameTable.{Fields, frame_form, kind_at}
use Rattle.frame_forms.specs.Frames.{part_scan, scanned, is_out_of_range, frame_scan, first_bad}

-- four bytes spell the length of a frame
pub record IsLength (head : List ℕ) (count : ℕ) : Type 0 where
  pub four : length head ≡ 4
  pub worth : from_be_bytes w32 head ≡ count
  pub in_range : is_out_of_range count ≡ false

-- the fourth byte of a length out of range
abbrev pub LengthRule : Type 0
LengthRule = (head rest : List ℕ) → length head ≡ 4 → is_out_of_range (from_be_bytes w32 head) ≡ true → first_bad (head ++ rest) ≡ Some (3, kinds.Length)

-- otherwise the first byte that is bad by the forms, of those within the length
abbrev pub FieldsRule : Type 0
FieldsRule = (head body rest : List ℕ) (count : ℕ) (kind : BadKind) → IsLength head count → length body ≤ count → scanned frame_form body ≡ bad rest kind
    → first_bad (head ++ body) ≡ Some (4 + (length body - length rest), kind)

-- a tag that is not in the table
abbrev pub TagRule : Type 0
TagRule = (tag : ℕ) (rest : List ℕ) → kind_at tag ≡ None → scanned frame_form (tag ∷ rest) ≡ bad (tag ∷ rest) kinds.Tag

-- a byte that is the number of nothing
abbrev pub ByteRule : Type 0
ByteRule = (s : Sort) (kind : BadKind) (numbers : Numbering (One s)) (b : ℕ) (rest : List ℕ) → numbers.at b ≡ None → scanned (byte s kind numbers) (b ∷ rest) ≡ bad (b ∷ rest) kind

-- the first byte of a mirror or value for which there is no room
abbrev pub DeepRule : Type 0
DeepRule = (c : Code) (p : Part c) (b : ℕ) (rest : List ℕ) → part_scan 0 c p (b ∷ rest) ≡ bad (b ∷ rest) kinds.Field

-- the last byte of a text with a fault, which is that of its length where the text is empty
abbrev pub TextRule : Type 0
TextRule = (fault : List ℕ → Option BadKind) (text rest : List ℕ) (kind : BadKind) → length text < 2 ^ 32 → fault text ≡ Some kind
    → scanned (run fault) (bytes_form text ++ rest) ≡ bad (drop (length text + 3) (bytes_form text ++ rest)) kind

-- a byte of the frame behind its last field
abbrev pub RestRule : Type 0
RestRule = (head body : List ℕ) (count : ℕ) (fields : Fields) (b : ℕ) (more : List ℕ) → IsLength head count → length body ≤ count → scanned frame_form body ≡ whole fields (b ∷ more)
    → first_bad (head ++ body) ≡ Some (4 + (length body - length (b ∷ more)), kinds.Rest)

-- the last byte of a frame that ends before its fields do
abbrev pub EndRule : Type 0
EndRule = (head body later : List ℕ) (count : ℕ) → IsLength head count → length body ≡ count → scanned frame_form body ≡ begun
    → first_bad (head ++ (body ++ later)) ≡ Some (count + 3, kinds.Field)

-- and nothing else is bad in a frame: what is bad is bad by the forms, or behind the last field, or is the last byte of fields that are only begun
abbrev pub OtherwiseRule : Type 0
OtherwiseRule = (head body : List ℕ) (count : ℕ) → IsLength head count → length body ≤ count → (rest : List ℕ) (kind : BadKind) → frame_scan (head ++ body) ≡ bad rest kind
    → (scanned frame_form body ≡ bad rest kind)
    ⊎ (((fields : Fields) × (scanned frame_form body ≡ whole fields rest) × (kind ≡ kinds.Rest))
    ⊎ ((scanned frame_form body ≡ begun) × (length body ≡ count) × (rest ≡ drop (count - 1) body) × (kind ≡ kinds.Field)))
