use Rattle.local_procs.specs.Places.{stands_at}
use Rattle.local_children.proofs.Steps.{answer_fits}
use Rattle.local_children.proofs.hearing.answer.Goals as goal

pub append-written-requires : goal.append-written-requires
append-written-requires c = record { fits = answer_fits c.args.child.local (stands_at c.args.child) c.args.frame.now (c.in-Ok.answer, stands_at c.in-Ok.next) (rw c.in-Ok.is at c.in_ok-answer.ensures.said) }
