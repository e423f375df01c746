-- How a peer's bytes leave the protocol: they end before a frame does, one of them is bad, or a frame has a tag that may not come there.
use Rattle.std.specs.Prelude.{ℕ, zero, suc, List, length, Option, None, Some, Result, Ok, Err}
use Rattle.frame_forms.specs.declared.bad_kind.BadKind.{BadKind}
use Rattle.frame_forms.specs.FrameTable.{tags}
use Rattle.frame_forms.specs.Frames.{first_bad}
use Rattle.wire_frames.specs.declared.frame.Frame.{Frame}
use Rattle.wire_frames.specs.Frames.{shown}
use Rattle.frame_stream.specs.Streams.{frame_at}
use Rattle.frame_breaches.specs.declared.breach.Breach.{Breach}
use Rattle.frame_breaches.specs.declared.breach.Breach.TheVariants.{Ended, Bad, Wrong}

-- ---- tags

abbrev pub tag_of : Frame → ℕ
tag_of frame = tags.number_of (shown frame).0

-- a whole frame that may not come where it stands
abbrev pub stray : Frame → Breach
stray frame = Wrong (tag_of frame)

-- ---- the front of bytes

-- a frame and the bytes behind it, or the breach
abbrev pub Front : Type 0
Front = Result (Frame × List ℕ) Breach

-- by the frame that stands first, or else the first bad byte, or else how many bytes there are of a frame that is begun
abbrev pub front_by : Option (Frame × List ℕ) → Option (ℕ × BadKind) → ℕ → Front
front_by (Some first) bad count = Ok first
front_by None (Some bad) count = Err (Bad bad.0 bad.1)
front_by None None count = Err (Ended count)

-- what stands first where no more bytes will come
unfoldable pub front_of : List ℕ → Front
front_of bytes = front_by (frame_at bytes) (first_bad bytes) (length bytes)

-- ---- places behind

abbrev pub go_on : (List ℕ → Front) → Front → Front
go_on next (Ok first) = next first.1
go_on next (Err breach) = Err breach

-- what stands behind this many frames; behind a breach it is that breach
unfoldable pub front_behind : ℕ → List ℕ → Front
front_behind zero bytes = front_of bytes
front_behind (suc n) bytes = go_on (front_behind n) (front_of bytes)

-- the frame without what stands behind it
abbrev pub frame_in : Front → Result Frame Breach
frame_in (Ok first) = Ok first.0
frame_in (Err breach) = Err breach
