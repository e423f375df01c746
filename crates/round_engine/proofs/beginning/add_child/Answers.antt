use Rattle.round_engine.proofs.StoppedChildren.{stays_still}
use Rattle.round_engine.proofs.beginning.add_child.Goals as goal

pub returns-in-Ok-clause-sent : goal.returns-in-Ok-clause-sent
returns-in-Ok-clause-sent g c = λ told. stays_still c.args.child (g.C.Children.state c.args.children.now)
