use Rattle.std.proofs.lemmas.Result.{err_from_is_err_and}
use Rattle.origin_record.specs.OldTables.{enter_all}
use Rattle.origin_record.proofs.RoundTables.{more_units, units_fail, units_done}
use Rattle.origin_record.proofs.tables.enter_all.Goals as goal

pub returns-in_err-enter_named : goal.returns-in_err-enter_named
returns-in_err-enter_named c =
    let p = err_from_is_err_and c.from_residual.result c.from_residual.ensures.1 in
    rw (p.1, p.2) (units_fail c.in_err-enter_named.field-0.0 c.loop-named.table c.args.units.now c.loop-named.named-index c.named-item.result (enter_all c.args.table.now c.args.units.now) c.enter_named.new.table
    c.loop-named-test.true c.named-item.is c.in_err-enter_named.ensures c.loop-named.invariant)

pub loop-named-preserved : goal.loop-named-preserved
loop-named-preserved c =
    more_units c.loop-named.table c.enter_named.new.table c.args.units.now c.loop-named.named-index c.named-item.result (enter_all c.args.table.now c.args.units.now)
    c.loop-named-test.true c.named-item.is c.in_ok-enter_named.ensures c.loop-named.invariant

pub returns : goal.returns
returns c = units_done c.loop-named.table c.args.units.now c.loop-named.named-index (enter_all c.args.table.now c.args.units.now) c.loop-named-test.false c.loop-named.invariant
