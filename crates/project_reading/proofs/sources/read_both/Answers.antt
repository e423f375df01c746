use Rattle.std.proofs.Common.{◌≡◌, Ok, rules}
use Rattle.std.proofs.lemmas.Result.{err_from_is_err_and}
use Rattle.element_table.specs.declared.part.Part.TheVariants.{Source, Stub}
use Rattle.project_reading.specs.Project.{read_all, raw_files}
use Rattle.project_reading.specs.Verdicts.{verdict}
use Rattle.project_reading.specs.Entering.{RefusesAs}
use Rattle.project_reading.proofs.SourcesOfAProject.{both-unread, sources-unread, both-read}
use Rattle.project_reading.proofs.sources.read_both.Goals as goal

pub returns-in_err-stubs-clause-read : goal.returns-in_err-stubs-clause-read
returns-in_err-stubs-clause-read c =
    let p = err_from_is_err_and c.from_residual.result c.from_residual.ensures.1 in
    let refuses : RefusesAs (read_all Stub c.args.stubs.now) (verdict c.in_err-stubs.field-0.0) = search rules in
    rw (p.1, p.2) (both-unread (raw_files c.args.stubs.now c.args.sources) (verdict c.in_err-stubs.field-0.0) refuses)

pub returns-in_err-sources-clause-read : goal.returns-in_err-sources-clause-read
returns-in_err-sources-clause-read c =
    let p = err_from_is_err_and c.from_residual-in_err-sources.result c.from_residual-in_err-sources.ensures.1 in
    let are : read_all Stub c.args.stubs.now ≡ Ok c.in_ok-stubs.stubs = search rules in
    let refuses : RefusesAs (read_all Source c.args.sources) (verdict c.in_err-sources.field-0.0) = search rules in
    rw (p.1, p.2) (sources-unread (raw_files c.args.stubs.now c.args.sources) c.in_ok-stubs.stubs are (verdict c.in_err-sources.field-0.0) refuses)

pub returns-clause-read : goal.returns-clause-read
returns-clause-read c =
    let are : read_all Stub c.args.stubs.now ≡ Ok c.in_ok-stubs.stubs = search rules in
    let is : read_all Source c.args.sources ≡ Ok c.in_ok-sources.sources = search rules in
    both-read (raw_files c.args.stubs.now c.args.sources) c.in_ok-stubs.stubs are c.in_ok-sources.sources is
