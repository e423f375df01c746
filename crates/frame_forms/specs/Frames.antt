-- What a frame is: its one spelling, and what stands at the front of bytes. A frame is a length of four bytes, from 1 to 134,217,724, and that many bytes: a tag of one byte and the tag's fields, which fill the length.
use Rattle.std.specs.Prelude.{ℕ, zero, suc, ◌-◌, ◌≤◌, Bool, ◌||◌, ◌==◌, nat_lt, List, [], ◌∷◌, ◌++◌, length, take, drop, Option, Some, None, if◌then◌else◌}
use Rattle.std.specs.Int.{w32}
use Rattle.apt_base.specs.Fields.{bytes_form}
use Rattle.frame_forms.specs.declared.bad_kind.BadKind.{BadKind}
use Rattle.frame_forms.specs.declared.bad_kind.BadKind.TheVariants as kinds
use Rattle.frame_forms.specs.Scans.{Scan, whole, begun, bad, and_then, number_scan}
use Rattle.frame_forms.specs.Forms.{Code, El, Form, PartFits, PartSpellings, PartScans, fits_with, spelled_with, scan_with}
use Rattle.frame_forms.specs.MirrorForms.{grammar}
use Rattle.frame_forms.specs.FrameTable.{frame_form, Fields}

-- ---- mirrors and values, nested in each other at most so deep

unfoldable pub part_fits : ℕ → PartFits
part_fits zero c p v = ⊥
part_fits (suc room) c p v = fits_with (part_fits room) (grammar p) v

unfoldable pub part_spelling : ℕ → PartSpellings
part_spelling zero c p v = []
part_spelling (suc room) c p v = spelled_with (part_spelling room) (grammar p) v

-- the first byte of what is nested too deep is bad
abbrev pub too_deep : {A : Type 0} → List ℕ → Scan A
too_deep [] = begun
too_deep (byte ∷ rest) = bad (byte ∷ rest) kinds.Field

unfoldable pub part_scan : ℕ → PartScans
part_scan zero c p bytes = too_deep bytes
part_scan (suc room) c p bytes = scan_with (part_scan room) (grammar p) bytes

abbrev pub most_nested : ℕ
most_nested = 256

abbrev pub Fits : {c : Code} → Form c → El c → Type 0
Fits form v = fits_with (part_fits most_nested) form v

abbrev pub spelled : {c : Code} → Form c → El c → List ℕ
spelled form v = spelled_with (part_spelling most_nested) form v

abbrev pub scanned : {c : Code} → Form c → List ℕ → Scan (El c)
scanned form bytes = scan_with (part_scan most_nested) form bytes

-- ---- frames

-- the most bytes of a tag with its fields: the frame limit of 134,217,728 bytes less the four of the length
abbrev pub most_fields : ℕ
most_fields = 134217724

-- the fields are as their forms ask, and the frame is not too long
abbrev pub IsFrame : Fields → Type 0
IsFrame fields = Fits frame_form fields × (length (spelled frame_form fields) ≤ most_fields)

-- the length, and then the tag and the fields
abbrev pub frame_spelling : Fields → List ℕ
frame_spelling fields = bytes_form (spelled frame_form fields)

-- What the tag and the fields come to, in a frame of this length of which these bytes are there, with these behind it. A byte behind the last field is bad, and so is the last byte of a frame that ends before its fields do.
abbrev pub closed : {A : Type 0} → ℕ → List ℕ → List ℕ → Scan A → Scan A
closed count body behind (whole fields []) = if length body == count then whole fields behind else begun
closed count body behind (whole fields (byte ∷ rest)) = bad (byte ∷ (rest ++ behind)) kinds.Rest
closed count body behind begun = if length body == count then bad (drop (count - 1) body ++ behind) kinds.Field else begun
closed count body behind (bad rest kind) = bad (rest ++ behind) kind

abbrev pub is_out_of_range : ℕ → Bool
is_out_of_range count = count == 0 || nat_lt most_fields count

-- the fourth byte of a length that no frame has is bad
abbrev pub framed_behind : {A : Type 0} → (List ℕ → Scan A) → List ℕ → ℕ → List ℕ → Scan A
framed_behind fields bytes count rest = if is_out_of_range count then bad (drop 3 bytes) kinds.Length else closed count (take count rest) (drop count rest) (fields (take count rest))

-- a length, and that many bytes with the tag and the fields
unfoldable pub framed : {A : Type 0} → (List ℕ → Scan A) → List ℕ → Scan A
framed fields bytes = and_then (number_scan w32 bytes) (framed_behind fields bytes)

-- the first frame, and the bytes behind it; or the beginning of one; or the first bad byte
abbrev pub frame_scan : List ℕ → Scan Fields
frame_scan bytes = framed (scanned frame_form) bytes

-- the place of the first bad byte, from 0, and what is wrong with it
abbrev pub place_in : {A : Type 0} → List ℕ → Scan A → Option (ℕ × BadKind)
place_in bytes (whole fields rest) = None
place_in bytes begun = None
place_in bytes (bad rest kind) = Some (length bytes - length rest, kind)

abbrev pub first_bad : List ℕ → Option (ℕ × BadKind)
first_bad bytes = place_in bytes (frame_scan bytes)
