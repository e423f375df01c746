use Rattle.processor_claims.proofs.LineLaws.{lines_after-empty}
use Rattle.processor_claims.proofs.lines.behind_line_end.Goals as goal

pub returns-in-None-clause-lines : goal.returns-in-None-clause-lines
returns-in-None-clause-lines c = lines_after-empty c.args.text.now c.in-None.ensures.cases
