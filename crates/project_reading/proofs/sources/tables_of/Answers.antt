use Rattle.std.proofs.lemmas.Result.{err_from_is_err_and}
use Rattle.project_reading.specs.Project.{read_both, enter_both, raw_files}
use Rattle.project_reading.specs.Verdicts.{verdict}
use Rattle.project_reading.proofs.Refusing.{refuses_then}
use Rattle.project_reading.proofs.SourcesOfAProject.{tables-behind, due_of_both_entered}
use Rattle.project_reading.proofs.sources.tables_of.Goals as goal

pub returns-in_err-read-clause-tables : goal.returns-in_err-read-clause-tables
returns-in_err-read-clause-tables c =
    let p = err_from_is_err_and c.from_residual.result c.from_residual.ensures.1 in
    rw (p.1, p.2) (refuses_then (read_both (raw_files c.args.stubs.now c.args.sources)) (verdict c.in_err-read.field-0.0) enter_both c.in_err-read.ensures.read)

pub returns-clause-tables : goal.returns-clause-tables
returns-clause-tables c = tables-behind (raw_files c.args.stubs.now c.args.sources) c.in_ok-read.read c.enter_both.result c.in_ok-read.ensures.read c.enter_both.ensures.units

pub returns-clause-due : goal.returns-clause-due
returns-clause-due c = due_of_both_entered c.in_ok-read.read c.enter_both.result c.enter_both.ensures.units
