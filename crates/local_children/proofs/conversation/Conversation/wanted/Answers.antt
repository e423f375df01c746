use Rattle.std.proofs.Common.{arith}
use Rattle.frame_reader.proofs.Wanted.{wants_some}
use Rattle.local_children.proofs.conversation.Conversation.wanted.Goals as goal

pub returns-clause-some : goal.returns-clause-some
returns-clause-some c = omega (arith, c.wanted.ensures, wants_some c.args.self.now.reader c.args.self.now.begins)
