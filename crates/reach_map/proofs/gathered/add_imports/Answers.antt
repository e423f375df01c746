use Rattle.std.proofs.Common.{refl, ap, ◌∙◌}
use Rattle.apt_base.specs.Identifiers.{parts}
use Rattle.apt_base.specs.Names.{with_names}
use Rattle.reach_map.specs.Candidates.{prefix_names, import_prefixes}
use Rattle.reach_map.proofs.CandidateSetsLemmas.{rest_next}
use Rattle.reach_map.proofs.gathered.add_imports.Goals as goal

pub loop-import-preserved : goal.loop-import-preserved
loop-import-preserved c =
    rest_next (λ i. prefix_names (parts i.name)) import_prefixes (λ x xs. refl) _ _ _ _ c.import-item.result c.import-item.result c.loop-import-test.true c.import-item.is
    (c.in_ok-add_text.ensures ∙ ap (λ text. with_names c.loop-import.names (prefix_names (parts text))) c.as_str.ensures)
    ∙ c.loop-import.invariant
