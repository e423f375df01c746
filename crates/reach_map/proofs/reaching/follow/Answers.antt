use Rattle.reach_map.proofs.ReachLemmas.{follows_none}
use Rattle.reach_map.proofs.reaching.follow.Goals as goal

pub returns-in-None-clause-left : goal.returns-in-None-clause-left
returns-in-None-clause-left c = follows_none c.args.table.now c.args.reached.now c.args.left.now.items c.args.name.now c.in-None.ensures
