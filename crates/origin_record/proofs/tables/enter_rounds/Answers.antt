use Rattle.std.proofs.Common.{◌≡◌, Err, Some, sym, ap, subst, ◌∙◌}
use Rattle.std.proofs.lemmas.Result.{err_from_is_err_and}
use Rattle.origin_record.specs.OldTables.{enter_all, enter_rounds, Enters}
use Rattle.origin_record.proofs.RoundTables.{failed, more_rounds, rounds_fail, rounds_done}
use Rattle.origin_record.proofs.tables.enter_rounds.Goals as goal

pub returns-in_err-enter_all : goal.returns-in_err-enter_all
returns-in_err-enter_all c =
    let p = err_from_is_err_and c.from_residual.result c.from_residual.ensures.1 in
    let fails = subst (λ (units : _). Enters (failed Unit c.in_err-enter_all.field-0.0) (enter_all c.loop-round.table units) c.enter_all.new.table) c.as_slice.ensures c.in_err-enter_all.ensures in
    rw (p.1, p.2) (rounds_fail c.in_err-enter_all.field-0.0 c.loop-round.table c.args.rounds.now c.loop-round.round-index c.round-item.result (enter_rounds c.args.table.now c.args.rounds.now) c.enter_all.new.table
    c.loop-round-test.true c.round-item.is fails c.loop-round.invariant)

pub loop-round-preserved : goal.loop-round-preserved
loop-round-preserved c =
    let entered : enter_all c.loop-round.table c.round-item.result.entered ≡ Some c.enter_all.new.table = ap (enter_all c.loop-round.table) (sym c.as_slice.ensures) ∙ c.in_ok-enter_all.ensures in
    more_rounds c.loop-round.table c.enter_all.new.table c.args.rounds.now c.loop-round.round-index c.round-item.result (enter_rounds c.args.table.now c.args.rounds.now)
    c.loop-round-test.true c.round-item.is entered c.loop-round.invariant

pub returns : goal.returns
returns c = rounds_done c.loop-round.table c.args.rounds.now c.loop-round.round-index (enter_rounds c.args.table.now c.args.rounds.now) c.loop-round-test.false c.loop-round.invariant
