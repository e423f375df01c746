-- What is known of the bytes of one frame, by how far they are.
use Rattle.std.specs.Prelude.{◌≡◌, ◌⊎◌, Result, Ok, Err, ℕ, ◌+◌, ◌-◌, ◌<◌, ◌≤◌, Bool, true, false, List, [], ◌∷◌, ◌++◌, length, take, nat_lt, if◌then◌else◌}
use Rattle.std.specs.Int.{w32, from_be_bytes}
use Rattle.frame_forms.specs.declared.bad_kind.BadKind.{BadKind}
use Rattle.frame_forms.specs.Scans.{Scan, whole, begun, bad}
use Rattle.frame_forms.specs.FrameTable.{Fields, frame_form}
use Rattle.frame_forms.specs.Frames.{scanned, frame_scan}
use Rattle.frame_forms.specs.BadBytes.{IsLength}
use Rattle.frame_reader.specs.declared.fields.FieldsReader.{FieldsReader}
use Rattle.frame_reader.specs.declared.stage.Stage.{Stage}
use Rattle.frame_reader.specs.declared.stage.Stage.TheVariants as stages
use Rattle.frame_reader.specs.declared.found.Found.{Found}
use Rattle.frame_reader.specs.declared.found.Found.TheVariants as founds
use Rattle.frame_reader.specs.declared.found.Interrupted.{Interrupted}
use Rattle.frame_reader.specs.Rests.{Reading, forgotten}
use Rattle.frame_reader.specs.Stands.{IsGathering}
use Rattle.frame_reader.specs.Follows.{Means}

-- what stands at the front of bytes, where no more of them are taken than a frame has
abbrev pub found_by : {A : Type 0} → List ℕ → Scan A → Found
found_by bytes (whole fields rest) = founds.Whole
found_by bytes begun = founds.Begun
found_by bytes (bad rest kind) = founds.Bad (length bytes - length rest) kind

abbrev pub found_in : List ℕ → Found
found_in bytes = found_by bytes (frame_scan bytes)

abbrev pub is_begun : Found → Bool
is_begun founds.Begun = true
is_begun founds.Whole = false
is_begun (founds.Bad place kind) = false

abbrev pub is_whole : Found → Bool
is_whole founds.Begun = false
is_whole founds.Whole = true
is_whole (founds.Bad place kind) = false

-- the tag and the fields, whatever their values, behind these bytes of theirs
abbrev pub fields_behind : List ℕ → Reading
fields_behind body later = forgotten (scanned frame_form (body ++ later))

-- the bytes are a frame and no more
abbrev pub IsWholeFrame : List ℕ → Type 0
IsWholeFrame bytes = (fields : Fields) × (frame_scan bytes ≡ whole fields [])

-- what is found is that, where it is a whole frame
abbrev pub EndsThere : Found → List ℕ → Type 0
EndsThere founds.Begun bytes = Unit {0}
EndsThere founds.Whole bytes = IsWholeFrame bytes
EndsThere (founds.Bad place kind) bytes = Unit {0}

-- a length, and fewer bytes than it says
pub record IsWithin (end : ℕ) (fields : FieldsReader) (bytes : List ℕ) : Type 0 where
  pub head : List ℕ
  pub body : List ℕ
  pub count : ℕ
  pub split : bytes ≡ head ++ body
  pub is_length : IsLength head count
  pub ends : end ≡ 4 + count
  pub before : length bytes < end
  pub means : Means fields bytes (fields_behind body)

abbrev pub InStage : Stage → FieldsReader → List ℕ → Type 0
InStage stages.Length fields bytes = length bytes < 4
InStage (stages.Fields end) fields bytes = IsWithin end fields bytes
InStage stages.Whole fields bytes = IsWholeFrame bytes
InStage (stages.Bad place kind) fields bytes = found_in bytes ≡ founds.Bad place kind

-- ---- one byte more

-- what has to be known to take one byte behind this many
abbrev pub CanTake : Stage → FieldsReader → ℕ → Type 0
CanTake stages.Length fields there = there < 4
CanTake (stages.Fields end) fields there = IsGathering fields.gather fields.list there × (there < end) × (end ≤ 134217728)
CanTake stages.Whole fields there = ⊥
CanTake (stages.Bad place kind) fields there = ⊥

abbrev pub TakesTo : Stage → Stage → FieldsReader → FieldsReader → List ℕ → ℕ → Type 0
TakesTo stage new old fields bytes byte = (held : List ℕ) → bytes ≡ held ++ byte ∷ [] → InStage stage old held → InStage new fields bytes

abbrev pub LengthTo : Stage → FieldsReader → List ℕ → Type 0
LengthTo stage fields bytes = InStage stage fields bytes

-- without memory
abbrev pub StaysIn : Stage → FieldsReader → FieldsReader → Type 0
StaysIn stage old new = (held : List ℕ) → InStage stage old held → InStage stage new held

-- ---- bytes that are taken

-- the bytes with one more, while no frame is whole and no byte is bad
abbrev pub fed_by : Found → List ℕ → List ℕ → List ℕ
fed_by founds.Begun bytes more = bytes ++ more
fed_by founds.Whole bytes more = bytes
fed_by (founds.Bad place kind) bytes more = bytes

abbrev pub fed : List ℕ → ℕ → List ℕ
fed bytes byte = fed_by (found_in bytes) bytes (byte ∷ [])

-- no bytes where a frame is whole
abbrev pub released_by : Found → List ℕ → List ℕ
released_by founds.Whole bytes = []
released_by founds.Begun bytes = bytes
released_by (founds.Bad place kind) bytes = bytes

abbrev pub released : List ℕ → List ℕ
released bytes = released_by (found_in bytes) bytes

-- ---- bytes that come next

-- the length that the first four bytes spell
abbrev pub count_in : List ℕ → ℕ
count_in bytes = from_be_bytes w32 (take 4 bytes)

-- the place behind the length of a frame, and where that is there the one behind the frame
abbrev pub next_end : List ℕ → ℕ
next_end bytes = if nat_lt (length bytes) 4 then 4 else 4 + count_in bytes

abbrev pub wanted_by : Found → List ℕ → ℕ
wanted_by founds.Begun bytes = next_end bytes - length bytes
wanted_by founds.Whole bytes = 0
wanted_by (founds.Bad place kind) bytes = 0

-- how many bytes of the frame come next, up to the end of its length, and behind that up to its own end
unfoldable pub wanted_in : List ℕ → ℕ
wanted_in bytes = wanted_by (found_in bytes) bytes

-- ---- pieces

-- how many bytes of a piece were taken
abbrev pub taken_of : Result ℕ Interrupted → ℕ
taken_of (Ok taken) = taken
taken_of (Err interrupted) = interrupted.taken

abbrev pub IsBegun : List ℕ → Type 0
IsBegun bytes = is_begun (found_in bytes) ≡ true

-- no byte was taken, or a frame was begun before the last one
abbrev pub IsOpenBefore : ℕ → List ℕ → List ℕ → Type 0
IsOpenBefore taken piece old = (taken ≡ 0) ⊎ IsBegun (old ++ take (taken - 1) piece)

-- some bytes of the piece were taken, and a frame was begun before the last one of them
pub record TakesFront (taken : ℕ) (piece old new : List ℕ) : Type 0 where
  pub some : 0 < taken
  pub within : taken ≤ length piece
  pub bytes : new ≡ old ++ take taken piece
  pub open_before : IsBegun (old ++ take (taken - 1) piece)

-- some bytes of the piece were taken or none, and a frame is begun
pub record TakesRun (taken : ℕ) (piece old new : List ℕ) : Type 0 where
  pub within : taken ≤ length piece
  pub bytes : new ≡ old ++ take taken piece
  pub begun : IsBegun new

-- All bytes of the piece were taken and a frame is begun, or those up to the first one that ends a frame or is bad. Without memory a frame is begun, and not all bytes were taken.
abbrev pub TakesPiece : Result ℕ Interrupted → List ℕ → List ℕ → List ℕ → Type 0
TakesPiece (Ok taken) piece old new = ((taken ≡ length piece) × IsBegun new) ⊎ (IsOpenBefore taken piece old × (is_begun (found_in new) ≡ false))
TakesPiece (Err interrupted) piece old new = (interrupted.taken < length piece) × IsBegun new
