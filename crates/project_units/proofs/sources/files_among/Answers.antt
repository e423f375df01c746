use Rattle.std.proofs.Common.{ap, sym, ◌∙◌}
use Rattle.std.specs.FinMap as fin
use Rattle.project_units.specs.Creations.{with_file}
use Rattle.project_units.proofs.CreationLemmas.{gathered_push}
use Rattle.project_units.proofs.sources.files_among.Goals as goal

pub loop-creation-preserved : goal.loop-creation-preserved
loop-creation-preserved c = c.in_ok-add_file.ensures ∙ ap (λ files. with_file files c.in-Some.creation) c.loop-creation.invariant
    ∙ sym (gathered_push with_file fin.empty c.loop-creation.yielded c.in-Some.creation)
