-- What stands next at the front of bytes: a value and the bytes behind it, or nothing. It is what the scan of the table finds whole, without the places of bad bytes.
use Rattle.std.specs.Prelude.{ℕ, Bool, true, not, ◌&&◌, List, [], ◌∷◌, length, nat_lt, slice_get, ◌==◌, Option, Some, None, if◌then◌else◌}
use Rattle.std.specs.List.{list_any, list_all}
use Rattle.std.specs.Str.{bytes_eq}
use Rattle.apt_base.specs.Fields.{◌>>=◌, u8_next, u16_next, bool_next, bytes_next, text_next}
use Rattle.apt_base.specs.Forms.{Reader, none_next, ◌>>◌, mapped, checked, numbered, opt_next, list_next}
use Rattle.apt_base.specs.Identifiers.{is_pattern}
use Rattle.apt_base.specs.declared.element.ElementRef.{ElementRef}
use Rattle.apt_base.specs.declared.kinds.Claim.{Claim}
use Rattle.apt_base.specs.declared.kinds.Claim.TheVariants.{Always, Never, Varies}
use Rattle.frame_forms.specs.Scans as scans
use Rattle.frame_forms.specs.Scans.{Scan}
use Rattle.frame_forms.specs.MirrorForms.{element_of}
use Rattle.wire_frames.specs.declared.frame.Creation.TheVariants.{Source, Resource, Class}
use Rattle.wire_frames.specs.declared.frame.Frame.{Frame}
use Rattle.wire_frames.specs.declared.frame.Frame.TheVariants as frames

-- what a scan found whole
abbrev pub found : {A : Type 0} → Scan A → Option (A × List ℕ)
found (scans.whole a rest) = Some (a, rest)
found scans.begun = None
found (scans.bad rest kind) = None

-- a value with nothing behind it
abbrev pub alone : {A : Type 0} → Option (A × List ℕ) → Option A
alone read = do
  x ← read
  if length x.1 == 0 then Some x.0 else None

-- ---- fields

-- no text stands in the list twice
abbrev pub are_distinct : List (List ℕ) → Bool
are_distinct [] = true
are_distinct (text ∷ others) = not (list_any (bytes_eq text) others) && are_distinct others

unfoldable pub distinct_next : Reader (List (List ℕ))
distinct_next = checked are_distinct (list_next text_next)

unfoldable pub patterns_next : Reader (List (List ℕ))
patterns_next = checked (λ texts. list_all is_pattern texts) distinct_next

-- a number below the bound, in one byte
unfoldable pub below_next : ℕ → Reader ℕ
below_next bound = checked (λ n. nat_lt n bound) u8_next

unfoldable pub claim_next : Reader Claim
claim_next = numbered (slice_get (Always ∷ Never ∷ Varies ∷ []))

unfoldable pub element_next : Reader ElementRef
element_next = mapped element_of (text_next >> list_next u16_next)

-- ---- a child's frames

abbrev pub hello_of : List (List ℕ) × (List (List ℕ) × Claim) → Frame
hello_of v = frames.Hello (record { patterns = v.0; options = v.1.0; claim = v.1.1 })

unfoldable pub hello_next : Reader Frame
hello_next = mapped hello_of (patterns_next >> (distinct_next >> claim_next))

abbrev pub done_of : Bool → Frame
done_of claimed = frames.Done claimed

unfoldable pub done_next : Reader Frame
done_next = mapped done_of bool_next

-- a name, the bytes and the originating elements
unfoldable pub file_next : Reader (List ℕ × (List ℕ × List ElementRef))
file_next = text_next >> (bytes_next >> list_next element_next)

abbrev pub source_of : List ℕ × (List ℕ × List ElementRef) → Frame
source_of v = frames.Create (Source v.0 v.1.0 v.1.1)

abbrev pub class_of : List ℕ × (List ℕ × List ElementRef) → Frame
class_of v = frames.Create (Class v.0 v.1.0 v.1.1)

abbrev pub resource_of : ℕ × (List ℕ × (List ℕ × (List ℕ × List ElementRef))) → Frame
resource_of v = frames.Create (Resource v.0 v.1.0 v.1.1.0 v.1.1.1.0 v.1.1.1.1)

unfoldable pub resource_next : Reader Frame
resource_next = mapped resource_of (below_next 3 >> (text_next >> file_next))

abbrev pub message_of : ℕ × (Option ElementRef × List ℕ) → Frame
message_of v = frames.Message (record { kind = v.0; element = v.1.0; text = v.1.1 })

unfoldable pub message_next : Reader Frame
message_next = mapped message_of (below_next 5 >> (opt_next element_next >> text_next))

-- the fields of a tag
abbrev pub fields_next : ℕ → Reader Frame
fields_next tag =
    if tag == 64 then hello_next
    else (if tag == 65 then done_next
    else (if tag == 66 then mapped source_of file_next
    else (if tag == 67 then resource_next
    else (if tag == 68 then mapped class_of file_next
    else (if tag == 69 then message_next else none_next)))))
