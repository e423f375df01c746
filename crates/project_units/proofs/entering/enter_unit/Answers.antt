use Rattle.std.proofs.Common.{ap, ◌∙◌, List, ℕ, subst}
use Rattle.unit_locations.specs.LocatedTable.{entered_at}
use Rattle.project_units.specs.Entering.{Reports}
use Rattle.project_units.proofs.EnteringLemmas.{enters_unit, enters_unit-not}
use Rattle.project_units.proofs.entering.enter_unit.Goals as goal

pub returns-in-Ok-enter : goal.returns-in-Ok-enter
returns-in-Ok-enter c =
    enters_unit c.args.part c.args.path.now c.args.table.now c.enter.new.self c.args.unit c.args.lines c.in-Ok-enter.ensures.answer
    (c.in-Ok-enter.ensures.ok ∙ ap (λ at. entered_at c.args.part c.args.unit at c.args.table.now) c.in-Ok.ensures)

pub returns-in-Err : goal.returns-in-Err
returns-in-Err c =
    enters_unit-not c.args.part c.args.path.now c.args.table.now c.enter.new.self c.args.unit c.args.lines c.in-Err.fault c.reported-told.result c.in-Err.ensures.answer c.in-Err.ensures.err c.in-Err.ensures.back
    (subst (λ (path : List ℕ). Reports c.enter.new.self path c.in-Err.fault c.reported-told.result) c.get.ensures c.reported-told.ensures)
