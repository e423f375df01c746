use Rattle.std.proofs.Common.{[], ◌∷◌, refl, ◌∙◌}
use Rattle.reach_map.proofs.CandidateSetsLemmas.{rest_next}
use Rattle.reach_map.proofs.ReachLemmas.{left_next, left_end}
use Rattle.reach_map.proofs.reaching.visit_all.Goals as goal

pub loop-name-preserved : goal.loop-name-preserved
loop-name-preserved c = (
  rest_next (λ n. n ∷ []) (λ ns. ns) (λ x xs. refl) _ _ c.args.names.now c.loop-name.name-index c.name-item.result c.name-item.result c.loop-name-test.true c.name-item.is c.in_ok-visit.ensures.reached
      ∙ c.loop-name.invariant.0,
  left_next c.args.table.now _ _ _ _ c.args.names.now c.loop-name.name-index c.name-item.result c.name-item.result c.loop-name-test.true c.name-item.is c.in_ok-visit.ensures.reached c.in_ok-visit.ensures.left
      ∙ c.loop-name.invariant.1,
)

pub returns-clause-left : goal.returns-clause-left
returns-clause-left c = left_end c.args.table.now c.loop-name.reached c.loop-name.left.items c.args.names.now c.loop-name.name-index c.loop-name-test.false ∙ c.loop-name.invariant.1
