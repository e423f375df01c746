use Rattle.memory_children.proofs.Keeping.{more_heard_by}
use Rattle.memory_children.proofs.local_child.hear_more.Goals as goal

pub returns : goal.returns
returns c = more_heard_by c.args.local c.args.bytes.now c.args.frame.now c.in_ok-before.before c.heard_behind.result c.in_ok-before.ensures c.heard_behind.ensures
