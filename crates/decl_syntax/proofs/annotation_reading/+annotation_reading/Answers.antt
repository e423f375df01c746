use Rattle.std.proofs.Common.{sym, subst, Option, List, ℕ}
use Rattle.std.proofs.lemmas.Result.{err_from_is_err_and}
use Rattle.apt_base.specs.Forms.{items_next}
use Rattle.decl_syntax.specs.Reading.{pair_in, value_next}
use Rattle.apt_base.proofs.Counted.{goes_on, list_ends, list_is_done}
use Rattle.apt_base.specs.Readings.{Gives}
use Rattle.decl_tree.specs.declared.annotation.ValueText.{ValueText}
use Rattle.decl_syntax.proofs.Values.{value_next-none, value_next-more}
use Rattle.decl_syntax.proofs.annotation_reading.+annotation_reading.Goals as goal

pub pairs-returns-in_err-item : goal.pairs-returns-in_err-item
pairs-returns-in_err-item t c =
    let p = err_from_is_err_and c.from_residual-in_err-item.result c.from_residual-in_err-item.ensures.1 in
    rw (p.1, p.2) (list_ends (pair_in (value_next c.args.room)) c.in_err-item.field-0.0 c.loop.items c.in_ok-count.count c.loop.counter c.loop.reader c.args.reader.now c.read_count.new.reader c.pair.new.reader
    c.in_ok-count.ensures c.loop-test.true c.in_err-item.ensures c.loop.invariant)

pub pairs-loop-preserved : goal.pairs-loop-preserved
pairs-loop-preserved t c =
    rw c.in_ok-push.ensures.ok (goes_on (pair_in (value_next c.args.room)) c.loop.items c.in_ok-count.count c.loop.counter c.loop.reader c.in_ok-item.item c.pair.new.reader (items_next (pair_in (value_next c.args.room)) c.in_ok-count.count c.read_count.new.reader)
    c.loop-test.true c.in_ok-item.ensures c.loop.invariant)

pub pairs-returns : goal.pairs-returns
pairs-returns t c = list_is_done (pair_in (value_next c.args.room)) c.loop.items c.in_ok-count.count c.loop.counter c.loop.reader c.args.reader.now c.read_count.new.reader c.in_ok-count.ensures c.loop-test.false c.loop.invariant

pub values-returns-in_err-item : goal.values-returns-in_err-item
values-returns-in_err-item t c =
    let p = err_from_is_err_and c.from_residual-in_err-item.result c.from_residual-in_err-item.ensures.1 in
    rw (p.1, p.2) (list_ends (value_next c.args.room) c.in_err-item.field-0.0 c.loop.items c.in_ok-count.count c.loop.counter c.loop.reader c.args.reader.now c.read_count.new.reader c.value.new.reader
    c.in_ok-count.ensures c.loop-test.true c.in_err-item.ensures c.loop.invariant)

pub values-loop-preserved : goal.values-loop-preserved
values-loop-preserved t c =
    rw c.in_ok-push.ensures.ok (goes_on (value_next c.args.room) c.loop.items c.in_ok-count.count c.loop.counter c.loop.reader c.in_ok-item.item c.value.new.reader (items_next (value_next c.args.room) c.in_ok-count.count c.read_count.new.reader)
    c.loop-test.true c.in_ok-item.ensures c.loop.invariant)

pub values-returns : goal.values-returns
values-returns t c = list_is_done (value_next c.args.room) c.loop.items c.in_ok-count.count c.loop.counter c.loop.reader c.args.reader.now c.read_count.new.reader c.in_ok-count.ensures c.loop-test.false c.loop.invariant

pub value-returns-then-room-eq0 : goal.value-returns-then-room-eq0
value-returns-then-room-eq0 t c = value_next-none c.args.room c.args.reader.now c.if-room-eq0.true

pub value-returns : goal.value-returns
value-returns t c =
    subst (λ (read : Option (ValueText × List ℕ)). Gives c.opened.result read c.opened.new.reader) (sym (value_next-more c.args.room c.args.reader.now c.if-room-eq0.false)) c.opened.ensures
