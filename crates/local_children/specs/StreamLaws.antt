-- What holds of all that the processors write.
use Rattle.std.specs.Prelude.{◌≡◌, ◌≤◌, ℕ, List, [], ◌∷◌, ◌++◌, length, flat_map, Err}
use Rattle.wire_frames.specs.declared.frame.Frame.{Frame}
use Rattle.wire_frames.specs.Frames.{spelling, IsInTable}
use Rattle.frame_stream.specs.Streams.{most_bytes}
use Rattle.frame_breaches.specs.declared.breach.Breach.{Breach}
use Rattle.local_procs.specs.declared.local.Local.{Local}
use Rattle.local_procs.specs.Says.{Unbegun}
use Rattle.local_children.specs.Streams.{session_of, says, said}

-- more bytes only lengthen it
abbrev pub IsLengthened : Type 0
IsLengthened = (local : Local) (bytes more : List ℕ) → (rest : List ℕ) × (says local (bytes ++ more) ≡ says local bytes ++ rest)

-- behind a breach nothing more is said, and the breach stays
abbrev pub EndsAtBreach : Type 0
EndsAtBreach = (local : Local) (bytes more : List ℕ) (breach : Breach) → (session_of local bytes).stands ≡ Err breach
    → session_of local (bytes ++ more) ≡ session_of local bytes

-- the table has the frame, and it isn't too long
abbrev pub IsSpelled : Frame → Type 0
IsSpelled frame = IsInTable frame × (length (spelling frame) ≤ most_bytes)

unfoldable pub AreSpelled : List Frame → Type 0
AreSpelled [] = Unit {0}
AreSpelled (frame ∷ frames) = IsSpelled frame × AreSpelled frames

-- to whole frames, one behind another, the answers are written one behind another
abbrev pub AnswersInTurn : Type 0
AnswersInTurn = (local : Local) (frames : List Frame) → AreSpelled frames
    → says local (flat_map spelling frames) ≡ flat_map spelling (said local Unbegun frames)

pub record SaysLaws : Type 0 where
  pub lengthened : IsLengthened
  pub ends : EndsAtBreach
  pub in_turn : AnswersInTurn
