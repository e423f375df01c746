use Rattle.processor_claims.proofs.LineLaws.{end-done, end-kept, end-goes}
use Rattle.processor_claims.proofs.lines.without_blanks_at_the_end.Goals as goal

pub returns-then-not-is_blank : goal.returns-then-not-is_blank
returns-then-not-is_blank c = end-kept c.args.text.now c.loop-last.rest.now c.loop-last.invariant c.in-Some.before.now c.in-Some.last.now c.in-Some.ensures.cases.0 c.if-not-is_blank.ensures

pub loop-last-preserved : goal.loop-last-preserved
loop-last-preserved c = end-goes c.args.text.now c.loop-last.rest.now c.loop-last.invariant c.in-Some.before.now c.in-Some.last.now c.in-Some.ensures.cases.0 c.if-not-is_blank.ensures

pub returns : goal.returns
returns c = end-done c.args.text.now c.loop-last.rest.now c.loop-last.invariant c.in_default.ensures.cases
