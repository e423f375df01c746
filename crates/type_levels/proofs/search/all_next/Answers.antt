use Rattle.type_levels.proofs.Growing.{grows_on, one_more}
use Rattle.type_levels.proofs.search.all_next.Goals as goal

pub loop-pair-preserved : goal.loop-pair-preserved
loop-pair-preserved g c =
    let old = g.R.Relation.seen c.args.relation.now c.args.types.now in
    let so_far = g.R.Relation.seen c.args.relation.now c.loop-pair.types in
    let new = g.R.Relation.seen c.args.relation.now c.next.new.types in
    let before = c.loop-pair.invariant.0 in
    let grows = c.in_ok-next.ensures.grows in (
      grows_on old so_far new before grows,
      one_more old so_far new c.args.level.now c.loop-pair.pair-index _ c.loop-pair.steps.items c.push.new.self.items c.in_ok-next.next c.loop-pair-test.true before grows c.requires.known
          c.loop-pair.invariant.1 c.in_ok-next.ensures.next c.in_ok-push.ensures.items,
    )
