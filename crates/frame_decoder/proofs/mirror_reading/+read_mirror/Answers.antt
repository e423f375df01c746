use Rattle.std.proofs.Common.{arith}
use Rattle.std.proofs.lemmas.Result.{err_from_is_err_and}
use Rattle.apt_base.specs.Forms.{items_next}
use Rattle.apt_base.proofs.Counted.{goes_on, list_ends, list_is_done}
use Rattle.apt_base.specs.declared.around.Around.TheVariants.{Array}
use Rattle.frame_decoder.specs.PartReadings.{mirror_next}
use Rattle.frame_decoder.proofs.Wrapping.{around_none, gives_room, gives_none, gives_more, gives_bound}
use Rattle.frame_decoder.proofs.mirror_reading.+read_mirror.Goals as goal

pub read_mirrors-returns-in_err-item : goal.read_mirrors-returns-in_err-item
read_mirrors-returns-in_err-item t c =
    let p = err_from_is_err_and c.from_residual-in_err-item.result c.from_residual-in_err-item.ensures.1 in
    rw (p.1, p.2) (list_ends (mirror_next c.args.room) c.in_err-item.field-0.0 c.loop.items c.in_ok-count.count c.loop.counter c.loop.reader c.args.reader.now c.read_count.new.reader c.read_mirror.new.reader
    c.in_ok-count.ensures c.loop-test.true c.in_err-item.ensures c.loop.invariant)

pub read_mirrors-loop-preserved : goal.read_mirrors-loop-preserved
read_mirrors-loop-preserved t c =
    rw c.in_ok-push.ensures.ok (goes_on (mirror_next c.args.room) c.loop.items c.in_ok-count.count c.loop.counter c.loop.reader c.in_ok-item.item c.read_mirror.new.reader (items_next (mirror_next c.args.room) c.in_ok-count.count c.read_count.new.reader)
    c.loop-test.true c.in_ok-item.ensures c.loop.invariant)

pub read_mirrors-returns : goal.read_mirrors-returns
read_mirrors-returns t c = list_is_done (mirror_next c.args.room) c.loop.items c.in_ok-count.count c.loop.counter c.loop.reader c.args.reader.now c.read_count.new.reader c.in_ok-count.ensures c.loop-test.false c.loop.invariant

pub around_mirror-returns-then-room-eq0 : goal.around_mirror-returns-then-room-eq0
around_mirror-returns-then-room-eq0 t c = around_none c.args.around c.args.room c.args.reader.now c.if-room-eq0.true

pub around_mirror-returns : goal.around_mirror-returns
around_mirror-returns t c = gives_room c.mirror_in.result c.args.around c.args.room c.args.reader.now c.mirror_in.new.reader (omega (arith, c.if-room-eq0.false)) c.mirror_in.ensures

pub read_mirror-returns : goal.read_mirror-returns
read_mirror-returns t c = gives_none c.around_mirror.result c.new.result (mirror_next c.args.room) c.args.reader.now c.around_mirror.new.reader c.new.ensures c.around_mirror.ensures

pub array-returns : goal.array-returns
array-returns t c = gives_more c.around_mirror.result c.args.around c.in_ok-around.around Array (mirror_next c.args.room) c.args.reader.now c.around_mirror.new.reader c.in_ok-around.ensures c.around_mirror.ensures

pub bounded-returns : goal.bounded-returns
bounded-returns t c =
    gives_bound c.around_mirror.result c.args.around c.in_ok-around.around c.args.side (mirror_next c.args.room) c.args.reader.now c.exactly.new.reader c.around_mirror.new.reader c.in_ok-around.ensures c.in_ok-exactly.ensures c.around_mirror.ensures
