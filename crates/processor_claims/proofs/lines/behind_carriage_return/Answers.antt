use Rattle.processor_claims.proofs.LineLaws.{behind_cr-empty, behind_cr-taken, behind_cr-kept}
use Rattle.processor_claims.proofs.lines.behind_carriage_return.Goals as goal

pub returns-in-None-clause-lines : goal.returns-in-None-clause-lines
returns-in-None-clause-lines c = behind_cr-empty c.args.text.now c.in-None.ensures.cases

pub returns-then-first-eq10-clause-lines : goal.returns-then-first-eq10-clause-lines
returns-then-first-eq10-clause-lines c = behind_cr-taken c.args.text.now c.in-Some.first.now c.in-Some.rest.now c.in-Some.ensures.cases.0 c.if-first-eq10.true

pub returns-else-first-eq10-clause-lines : goal.returns-else-first-eq10-clause-lines
returns-else-first-eq10-clause-lines c = behind_cr-kept c.args.text.now c.in-Some.first.now c.in-Some.rest.now c.in-Some.ensures.cases.0 c.if-first-eq10.false
