use Rattle.std.proofs.Common.{sym, subst, Option, List, ℕ}
use Rattle.std.proofs.lemmas.Result.{err_from_is_err_and}
use Rattle.apt_base.specs.Forms.{items_next}
use Rattle.decl_syntax.specs.Reading.{part_in, inside_next}
use Rattle.apt_base.proofs.Counted.{goes_on, list_ends, list_is_done}
use Rattle.apt_base.specs.Readings.{Gives}
use Rattle.decl_tree.specs.declared.type_text.TypeText.{TypeText}
use Rattle.decl_syntax.proofs.Types.{inside_next-none, inside_next-more}
use Rattle.decl_syntax.proofs.type_reading.+type_reading.Goals as goal

pub parts-returns-in_err-item : goal.parts-returns-in_err-item
parts-returns-in_err-item t c =
    let p = err_from_is_err_and c.from_residual-in_err-item.result c.from_residual-in_err-item.ensures.1 in
    rw (p.1, p.2) (list_ends (part_in (inside_next c.args.room)) c.in_err-item.field-0.0 c.loop.items c.in_ok-count.count c.loop.counter c.loop.reader c.args.reader.now c.read_count.new.reader c.part.new.reader
    c.in_ok-count.ensures c.loop-test.true c.in_err-item.ensures c.loop.invariant)

pub parts-loop-preserved : goal.parts-loop-preserved
parts-loop-preserved t c =
    rw c.in_ok-push.ensures.ok (goes_on (part_in (inside_next c.args.room)) c.loop.items c.in_ok-count.count c.loop.counter c.loop.reader c.in_ok-item.item c.part.new.reader (items_next (part_in (inside_next c.args.room)) c.in_ok-count.count c.read_count.new.reader)
    c.loop-test.true c.in_ok-item.ensures c.loop.invariant)

pub parts-returns : goal.parts-returns
parts-returns t c = list_is_done (part_in (inside_next c.args.room)) c.loop.items c.in_ok-count.count c.loop.counter c.loop.reader c.args.reader.now c.read_count.new.reader c.in_ok-count.ensures c.loop-test.false c.loop.invariant

pub insides-returns-in_err-item : goal.insides-returns-in_err-item
insides-returns-in_err-item t c =
    let p = err_from_is_err_and c.from_residual-in_err-item.result c.from_residual-in_err-item.ensures.1 in
    rw (p.1, p.2) (list_ends (inside_next c.args.room) c.in_err-item.field-0.0 c.loop.items c.in_ok-count.count c.loop.counter c.loop.reader c.args.reader.now c.read_count.new.reader c.inside.new.reader
    c.in_ok-count.ensures c.loop-test.true c.in_err-item.ensures c.loop.invariant)

pub insides-loop-preserved : goal.insides-loop-preserved
insides-loop-preserved t c =
    rw c.in_ok-push.ensures.ok (goes_on (inside_next c.args.room) c.loop.items c.in_ok-count.count c.loop.counter c.loop.reader c.in_ok-item.item c.inside.new.reader (items_next (inside_next c.args.room) c.in_ok-count.count c.read_count.new.reader)
    c.loop-test.true c.in_ok-item.ensures c.loop.invariant)

pub insides-returns : goal.insides-returns
insides-returns t c = list_is_done (inside_next c.args.room) c.loop.items c.in_ok-count.count c.loop.counter c.loop.reader c.args.reader.now c.read_count.new.reader c.in_ok-count.ensures c.loop-test.false c.loop.invariant

pub inside-returns-then-room-eq0 : goal.inside-returns-then-room-eq0
inside-returns-then-room-eq0 t c = inside_next-none c.args.room c.args.reader.now c.if-room-eq0.true

pub inside-returns : goal.inside-returns
inside-returns t c =
    subst (λ (read : Option (TypeText × List ℕ)). Gives c.type_text.result read c.type_text.new.reader) (sym (inside_next-more c.args.room c.args.reader.now c.if-room-eq0.false)) c.type_text.ensures
