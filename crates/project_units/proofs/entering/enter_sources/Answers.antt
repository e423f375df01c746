use Rattle.std.proofs.Common.{rules}
use Rattle.std.proofs.lemmas.Result.{err_from_is_err_and}
use Rattle.element_table.specs.declared.part.Part.TheVariants.{Source}
use Rattle.decl_parser.specs.Parsed.{shown_parsed}
use Rattle.project_units.specs.Units.{enter_units}
use Rattle.project_units.specs.Entering.{Obstructs}
use Rattle.project_units.proofs.EnteringLemmas.{enters_named, enters_unnamed}
use Rattle.project_units.proofs.entering.enter_sources.Goals as goal

pub returns : goal.returns
returns c = enters_named c.args.path.now c.args.table.now c.enter_units.new.table (shown_parsed c.args.parsed) c.in_ok-names.names (search rules) (search rules)

pub returns-in_err-enter_units : goal.returns-in_err-enter_units
returns-in_err-enter_units c =
    let p = err_from_is_err_and c.from_residual-in_err-enter_units.result c.from_residual-in_err-enter_units.ensures.1 in
    let stands : Obstructs (enter_units Source c.args.path.now c.args.table.now (shown_parsed c.args.parsed)) c.in_err-enter_units.field-0.0 = search rules in
    rw (p.1, p.2) (enters_unnamed c.args.path.now c.args.table.now c.enter_units.new.table (shown_parsed c.args.parsed) c.in_err-enter_units.field-0.0 stands)
