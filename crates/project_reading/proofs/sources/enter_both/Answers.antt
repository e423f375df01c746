use Rattle.std.proofs.Common.{◌≡◌, Ok, ap, sym, ◌∙◌, rules}
use Rattle.std.proofs.lemmas.Result.{err_from_is_err_and}
use Rattle.element_table.specs.declared.part.Part.TheVariants.{Source, Stub}
use Rattle.unit_locations.specs.LocatedTable.{LocatedTable, nothing_located}
use Rattle.project_reading.specs.Project.{enter_all}
use Rattle.project_reading.specs.Verdicts.{verdict}
use Rattle.project_reading.specs.Entering.{RefusesAs}
use Rattle.project_reading.proofs.SourcesOfAProject.{both-unentered, sources-unentered, both-entered}
use Rattle.project_reading.proofs.sources.enter_both.Goals as goal

pub returns-in_err-enter_each-clause-units : goal.returns-in_err-enter_each-clause-units
returns-in_err-enter_each-clause-units c =
    let p = err_from_is_err_and c.from_residual.result c.from_residual.ensures.1 in
    let refuses : RefusesAs (enter_all Stub nothing_located c.args.read.stubs) (verdict c.in_err-enter_each.field-0.0) = search rules in
    rw (p.1, p.2) (both-unentered c.args.read (verdict c.in_err-enter_each.field-0.0) refuses)

pub returns-in_err-enter_each-2-clause-units : goal.returns-in_err-enter_each-2-clause-units
returns-in_err-enter_each-2-clause-units c =
    let p = err_from_is_err_and c.from_residual-in_err-enter_each-2.result c.from_residual-in_err-enter_each-2.ensures.1 in
    let stubs = c.enter_each.new.table in
    let are : enter_all Stub nothing_located c.args.read.stubs ≡ Ok stubs = search rules in
    let refuses : RefusesAs (enter_all Source stubs c.args.read.sources) (verdict c.in_err-enter_each-2.field-0.0) = search rules in
    rw (p.1, p.2) (sources-unentered c.args.read stubs are (verdict c.in_err-enter_each-2.field-0.0) refuses)

pub returns-clause-units : goal.returns-clause-units
returns-clause-units c =
    let stubs = c.enter_each.new.table in
    let all = c.enter_each-2.new.table in
    let are : enter_all Stub nothing_located c.args.read.stubs ≡ Ok stubs = search rules in
    let is : enter_all Source stubs c.args.read.sources ≡ Ok all = search rules in
    both-entered c.args.read stubs are all is ∙ ap (λ (t : LocatedTable). Ok (record { stubs = t; initial = all })) (sym c.in_ok-alone.ensures)
