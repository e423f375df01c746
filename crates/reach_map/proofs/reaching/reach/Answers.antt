use Rattle.reach_map.proofs.ReachLemmas.{listed_by}
use Rattle.reach_map.proofs.reaching.reach.Goals as goal

pub returns : goal.returns
returns c =
    listed_by c.args.table.now c.args.unit.now c.from_ref.result.now c.in_ok-reached.reached c.list.result c.from_ref.ensures.value c.list.ensures c.in_ok-reached.ensures
