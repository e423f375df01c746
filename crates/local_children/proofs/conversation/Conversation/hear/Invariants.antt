use Rattle.std.proofs.Common.{length}
use Rattle.local_children.specs.Hearing.{stand_of}
use Rattle.local_children.proofs.Pieces.{HearsOn}
use Rattle.local_children.proofs.conversation.Conversation.hear.Given as goal

-- so far it has said this, and the rest of the bytes is still to be heard
abbrev pub invariant-loop-rest : goal.invariant-loop-rest
invariant-loop-rest l = HearsOn (stand_of l.fn.self) l.bytes l.said.items l.stands l.rest

abbrev pub decreases-loop-rest : goal.decreases-loop-rest
decreases-loop-rest l = length l.rest
