use Rattle.processor_claims.proofs.LineLaws.{front-done, front-kept, front-goes}
use Rattle.processor_claims.proofs.lines.without_blanks_in_front.Goals as goal

pub returns-then-not-is_blank : goal.returns-then-not-is_blank
returns-then-not-is_blank c = front-kept c.args.text.now c.loop-first.rest.now c.loop-first.invariant c.in-Some.first.now c.in-Some.after.now c.in-Some.ensures.cases.0 c.if-not-is_blank.ensures

pub loop-first-preserved : goal.loop-first-preserved
loop-first-preserved c = front-goes c.args.text.now c.loop-first.rest.now c.loop-first.invariant c.in-Some.first.now c.in-Some.after.now c.in-Some.ensures.cases.0 c.if-not-is_blank.ensures

pub returns : goal.returns
returns c = front-done c.args.text.now c.loop-first.rest.now c.loop-first.invariant c.in_default.ensures.cases
