use Rattle.std.proofs.Common.{ℕ, List, Option, ap, subst, ◌∙◌, arith}
use Rattle.std.proofs.lemmas.Result.{err_from_is_err_and}
use Rattle.apt_base.specs.Forms.{items_next}
use Rattle.apt_base.proofs.Counted.{goes_on, list_ends, list_is_done}
use Rattle.frame_decoder.specs.PartReadings.{named_in, value_next}
use Rattle.apt_base.specs.Readings.{Gives}
use Rattle.type_mirror.specs.declared.value.Value.{Value}
use Rattle.frame_decoder.proofs.Rooms.{value_next-none, value_next-more}
use Rattle.frame_decoder.proofs.value_reading.+read_value.Goals as goal

pub values-returns-in_err-item : goal.values-returns-in_err-item
values-returns-in_err-item t c =
    let p = err_from_is_err_and c.from_residual-in_err-item.result c.from_residual-in_err-item.ensures.1 in
    rw (p.1, p.2) (list_ends (value_next c.args.room) c.in_err-item.field-0.0 c.loop.items c.in_ok-count.count c.loop.counter c.loop.reader c.args.reader.now c.read_count.new.reader c.read_value.new.reader
    c.in_ok-count.ensures c.loop-test.true c.in_err-item.ensures c.loop.invariant)

pub values-loop-preserved : goal.values-loop-preserved
values-loop-preserved t c =
    rw c.in_ok-push.ensures.ok (goes_on (value_next c.args.room) c.loop.items c.in_ok-count.count c.loop.counter c.loop.reader c.in_ok-item.item c.read_value.new.reader (items_next (value_next c.args.room) c.in_ok-count.count c.read_count.new.reader)
    c.loop-test.true c.in_ok-item.ensures c.loop.invariant)

pub values-returns : goal.values-returns
values-returns t c = list_is_done (value_next c.args.room) c.loop.items c.in_ok-count.count c.loop.counter c.loop.reader c.args.reader.now c.read_count.new.reader c.in_ok-count.ensures c.loop-test.false c.loop.invariant

pub named_values-returns-in_err-item : goal.named_values-returns-in_err-item
named_values-returns-in_err-item t c =
    let p = err_from_is_err_and c.from_residual-in_err-item.result c.from_residual-in_err-item.ensures.1 in
    rw (p.1, p.2) (list_ends (named_in (value_next c.args.room)) c.in_err-item.field-0.0 c.loop.items c.in_ok-count.count c.loop.counter c.loop.reader c.args.reader.now c.read_count.new.reader c.named_value.new.reader
    c.in_ok-count.ensures c.loop-test.true c.in_err-item.ensures c.loop.invariant)

pub named_values-loop-preserved : goal.named_values-loop-preserved
named_values-loop-preserved t c =
    rw c.in_ok-push.ensures.ok (goes_on (named_in (value_next c.args.room)) c.loop.items c.in_ok-count.count c.loop.counter c.loop.reader c.in_ok-item.item c.named_value.new.reader (items_next (named_in (value_next c.args.room)) c.in_ok-count.count c.read_count.new.reader)
    c.loop-test.true c.in_ok-item.ensures c.loop.invariant)

pub named_values-returns : goal.named_values-returns
named_values-returns t c = list_is_done (named_in (value_next c.args.room)) c.loop.items c.in_ok-count.count c.loop.counter c.loop.reader c.args.reader.now c.read_count.new.reader c.in_ok-count.ensures c.loop-test.false c.loop.invariant

pub read_value-returns-then-room-eq0 : goal.read_value-returns-then-room-eq0
read_value-returns-then-room-eq0 t c = ap (λ (room : ℕ). value_next room c.args.reader.now) c.if-room-eq0.true ∙ value_next-none c.args.reader.now

pub read_value-returns : goal.read_value-returns
read_value-returns t c =
    subst (λ (read : Option (Value × List ℕ)). Gives c.value_in.result read c.value_in.new.reader) (value_next-more c.args.room c.args.reader.now (omega (arith, c.if-room-eq0.false))) c.value_in.ensures
