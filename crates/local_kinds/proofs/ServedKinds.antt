-- The children of local commands answer frame by frame.
use Rattle.std.proofs.Common.{◌≡◌, List, [], ◌∷◌, Option, Some, sym, subst}
use Rattle.std.specs.List.{AllByRecursion}
use Rattle.wire_frames.specs.declared.frame.Frame.{Frame}
use Rattle.local_procs.specs.declared.local.Local.{Local}
use Rattle.local_children.specs.Streams.{says, says_by}
use Rattle.local_children.specs.StreamLaws.{AreSpelled}
use Rattle.local_children.proofs.Sessions.{says_laws}
use Rattle.local_kinds.specs.Rounds.{IsSendable}
use Rattle.local_kinds.specs.Streams.{ReadsInTurn}
use Rattle.local_kinds.specs.Kinds.{Keeps, ServedKeepKinds}
use Rattle.local_kinds.proofs.ReadingFrames.{readers_in_turn}
use Rattle.local_kinds.proofs.KindsKept.{all_kinds_kept}

pub spelled : (frames : List Frame) → AllByRecursion IsSendable frames → AreSpelled frames
unfolding AreSpelled
spelled [] are = tt
spelled (frame ∷ frames) are = ((are.0.fits, are.0.short), spelled frames are.1)

pub served_in_turn : (local : Local) → ReadsInTurn local (says local)
served_in_turn local frames are = says_laws.in_turn local frames (spelled frames are)

pub served_kept : ServedKeepKinds
served_kept name command local is =
    subst (λ (found : Option Local). Keeps local (λ frames. says_by found frames)) (sym is)
    (all_kinds_kept local (λ frames. says_by (Some local) frames) (readers_in_turn local (says local) (served_in_turn local)))
