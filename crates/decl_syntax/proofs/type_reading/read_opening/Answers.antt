use Rattle.std.proofs.Common.{Some, ap, ◌∙◌}
use Rattle.std.proofs.lemmas.Result.{err_from_is_err_and}
use Rattle.decl_syntax.specs.Reading.{opening_next}
use Rattle.decl_syntax.specs.declared.type_reading.Step.{Step}
use Rattle.decl_syntax.proofs.Openings.{goes_on, ends, is_done, step-shorter}
use Rattle.decl_syntax.proofs.type_reading.read_opening.Goals as goal

pub returns-in_err-item : goal.returns-in_err-item
returns-in_err-item c =
    let p = err_from_is_err_and c.from_residual.result c.from_residual.ensures.1 in
    rw (p.1, p.2) (ends c.in_err-item.field-0.0 c.loop-around.around c.loop-around.reader c.next_step.new.reader c.next_step.new.reader (opening_next c.args.reader.now) c.in_err-item.ensures c.loop-around.invariant)

pub loop-around-smaller : goal.loop-around-smaller
loop-around-smaller c = step-shorter c.loop-around.reader c.in_ok-item.field-0 c.next_step.new.reader c.in_ok-item.ensures

pub loop-around-preserved : goal.loop-around-preserved
loop-around-preserved c =
    rw c.in_ok-push-in-Around.ensures.ok (goes_on c.loop-around.around c.loop-around.reader c.in-Around.item c.next_step.new.reader (opening_next c.args.reader.now)
    (c.in_ok-item.ensures ∙ ap (λ (s : Step). Some (s, c.next_step.new.reader)) c.in-Around.is) c.loop-around.invariant)

pub returns-in-Base : goal.returns-in-Base
returns-in-Base c =
    is_done c.loop-around.around c.loop-around.reader c.in-Base.kind c.next_step.new.reader (opening_next c.args.reader.now)
    (c.in_ok-item.ensures ∙ ap (λ (s : Step). Some (s, c.next_step.new.reader)) c.in-Base.is) c.loop-around.invariant
