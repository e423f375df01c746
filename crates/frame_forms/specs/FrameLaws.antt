-- What holds of all frames. Each law is proved once for all forms, so a new line of the table needs no new law.
use Rattle.std.specs.Prelude.{◌≡◌, ◌↔◌, ℕ, ◌<◌, ◌+◌, List, [], ◌∷◌, ◌++◌, length, take, Some}
use Rattle.frame_forms.specs.declared.bad_kind.BadKind.{BadKind}
use Rattle.frame_forms.specs.Scans.{whole, begun, bad}
use Rattle.frame_forms.specs.ScanLaws.{IsBytes}
use Rattle.frame_forms.specs.FrameTable.{Fields}
use Rattle.frame_forms.specs.Frames.{IsFrame, frame_spelling, frame_scan, first_bad}

-- a frame has one spelling, and none is a proper prefix of another one's
abbrev pub HasOneSpelling : Type 0
HasOneSpelling = (a b : Fields) → IsFrame a → IsFrame b → (more : List ℕ) → frame_spelling a ++ more ≡ frame_spelling b → (a ≡ b) × (more ≡ [])

-- a frame and a rest stand at the front of bytes exactly where the bytes are its spelling and then the rest
abbrev pub ReadingMeetsSpelling : Type 0
ReadingMeetsSpelling = (bytes : List ℕ) (a : Fields) (rest : List ℕ) → IsBytes bytes → (frame_scan bytes ≡ whole a rest) ↔ (IsFrame a × (bytes ≡ frame_spelling a ++ rest))

-- before the end of a frame no byte of it is bad
abbrev pub FrontsAreBegun : Type 0
FrontsAreBegun = (a : Fields) → IsFrame a → (front : List ℕ) (byte : ℕ) (back : List ℕ) → frame_spelling a ≡ front ++ byte ∷ back → frame_scan front ≡ begun

-- where a byte is bad no frame goes on
abbrev pub NoFrameGoesOn : Type 0
NoFrameGoesOn = (bytes rest : List ℕ) (kind : BadKind) → frame_scan bytes ≡ bad rest kind → (more : List ℕ) (a : Fields) (behind : List ℕ) → IsFrame a → bytes ++ more ≡ frame_spelling a ++ behind → ⊥

-- No byte before that place is bad, and the one there is, as soon as it is there and whatever comes behind it.
pub record IsFirstBad (bytes : List ℕ) (place : ℕ) (kind : BadKind) : Type 0 where
  pub within : place < length bytes
  pub before : frame_scan (take place bytes) ≡ begun
  pub after : (later : List ℕ) → first_bad (take (place + 1) bytes ++ later) ≡ Some (place, kind)

abbrev pub FirstBadIsFound : Type 0
FirstBadIsFound = (bytes : List ℕ) (place : ℕ) (kind : BadKind) → (first_bad bytes ≡ Some (place, kind)) ↔ IsFirstBad bytes place kind

-- what one byte more comes to, where the bytes before it are the beginning of a frame: it ends the frame, goes on, or is bad
pub data OneMore (front : List ℕ) (byte : ℕ) : Type 0 where
  ends : (a : Fields) → frame_scan (front ++ byte ∷ []) ≡ whole a [] → OneMore front byte
  goes_on : frame_scan (front ++ byte ∷ []) ≡ begun → OneMore front byte
  stops : (kind : BadKind) → frame_scan (front ++ byte ∷ []) ≡ bad (byte ∷ []) kind → OneMore front byte

abbrev pub ByteByByte : Type 0
ByteByByte = (front : List ℕ) (byte : ℕ) → frame_scan front ≡ begun → OneMore front byte
