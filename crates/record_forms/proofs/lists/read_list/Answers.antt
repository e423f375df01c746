use Rattle.std.proofs.lemmas.Result.{err_from_is_err_and}
use Rattle.apt_base.specs.Forms.{items_next}
use Rattle.apt_base.proofs.Counted.{goes_on, list_ends, list_is_done}
use Rattle.record_forms.proofs.lists.read_list.Goals as goal

pub returns-in_err-item : goal.returns-in_err-item
returns-in_err-item g c =
    let p = err_from_is_err_and c.from_residual-in_err-item.result c.from_residual-in_err-item.ensures.1 in
    rw (p.1, p.2) (list_ends g.T.InRecord.form.next c.in_err-item.field-0.0 c.loop.items c.in_ok-count.count c.loop.counter c.loop.reader c.args.reader.now c.read_count.new.reader c.read.new.reader
    c.in_ok-count.ensures c.loop-test.true c.in_err-item.ensures c.loop.invariant)

pub loop-preserved : goal.loop-preserved
loop-preserved g c =
    rw c.in_ok-push.ensures.ok (goes_on g.T.InRecord.form.next c.loop.items c.in_ok-count.count c.loop.counter c.loop.reader c.in_ok-item.item c.read.new.reader (items_next g.T.InRecord.form.next c.in_ok-count.count c.read_count.new.reader)
    c.loop-test.true c.in_ok-item.ensures c.loop.invariant)

pub returns : goal.returns
returns g c = list_is_done g.T.InRecord.form.next c.loop.items c.in_ok-count.count c.loop.counter c.loop.reader c.args.reader.now c.read_count.new.reader c.in_ok-count.ensures c.loop-test.false c.loop.invariant
