use Rattle.std.proofs.Common.{ap, ◌∙◌}
use Rattle.decl_elements.specs.Walk.{places}
use Rattle.reach_map.specs.Chains.{unit_chains}
use Rattle.reach_map.specs.CandidateSets.{with_chains}
use Rattle.reach_map.specs.declared.places.Gatherer.{Gatherer}
use Rattle.reach_map.proofs.CandidateSetsLemmas.{all_added}
use Rattle.reach_map.proofs.places.with_places.Goals as goal

pub returns : goal.returns
unfolding unit_chains
returns c =
    all_added (λ (g : Gatherer). g.unit.now) (λ (g : Gatherer). g.names) _ c.walk.new.visitor (places c.args.unit.now) c.in_ok-walk.ensures.value
    ∙ ap (λ u. with_chains u c.args.names (unit_chains c.args.unit.now)) c.text-text.ensures.value
