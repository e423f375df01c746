use Rattle.std.proofs.Common.{refl, ◌∙◌}
use Rattle.apt_base.specs.Identifiers.{parts}
use Rattle.name_resolve.specs.Parts.{lent}
use Rattle.reach_map.specs.Candidates.{prefix_names, prefixes_of_all}
use Rattle.reach_map.proofs.CandidateSetsLemmas.{rest_next}
use Rattle.reach_map.proofs.gathered.add_texts.Goals as goal

pub loop-text-preserved : goal.loop-text-preserved
loop-text-preserved c =
    rest_next (λ t. prefix_names (parts t.now)) (λ ts. prefixes_of_all (lent ts)) (λ x xs. refl) _ _ c.args.texts.now c.loop-text.text-index _ _ c.loop-text-test.true refl c.in_ok-add_text.ensures
    ∙ c.loop-text.invariant
