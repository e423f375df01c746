use Rattle.std.proofs.Common.{sym, ap, ◌∙◌}
use Rattle.reach_map.specs.Reaching.{holds}
use Rattle.reach_map.proofs.ReachLemmas.{with_same_name}
use Rattle.reach_map.proofs.reaching.visit.Goals as goal

pub returns-then-contains-clause-reached : goal.returns-then-contains-clause-reached
returns-then-contains-clause-reached c =
    sym (with_same_name c.args.reached.now c.args.name.now (ap (holds c.args.reached.now) (sym c.as_str.ensures) ∙ sym c.contains.ensures ∙ c.if-contains.true))
