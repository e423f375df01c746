use Rattle.std.proofs.Common.{refl, ◌∙◌}
use Rattle.reach_map.specs.Candidates.{imported_name, imported_names}
use Rattle.reach_map.proofs.CandidateSetsLemmas.{rest_next}
use Rattle.reach_map.proofs.chains.add_all_imported.Goals as goal

pub loop-import-preserved : goal.loop-import-preserved
loop-import-preserved c =
    rest_next (imported_name c.args.first.now) (imported_names c.args.first.now) (λ x xs. refl) _ _ _ _ c.import-item.result c.import-item.result c.loop-import-test.true c.import-item.is
    c.in_ok-add_imported.ensures
    ∙ c.loop-import.invariant
