-- A child that writes by the bytes that it read.
use Rattle.std.proofs.Common.{◌≡◌, ℕ, List, [], ◌∷◌, ◌++◌, map, refl, ap, ◌∙◌}
use Rattle.std.specs.List.{flat_map}
use Rattle.wire_frames.specs.declared.frame.Frame.{Frame}
use Rattle.wire_frames.specs.Frames.{spelling}
use Rattle.local_kinds.specs.Streams.{ReadersAnswerInTurn}

joined : (frames : List Frame) → flat_map (λ (bytes : List ℕ). bytes) (map spelling frames) ≡ flat_map spelling frames
joined [] = refl
joined (frame ∷ frames) = ap (λ rest. spelling frame ++ rest) (joined frames)

pub readers_in_turn : ReadersAnswerInTurn
readers_in_turn local says reads frames sendable = ap says (joined frames) ∙ reads frames sendable
