use Rattle.processor_claims.proofs.LineLaws.{name_in-dotted, name_in-other, name_in-no_text}
use Rattle.processor_claims.proofs.lines.name_in.Goals as goal

pub returns-in-Err : goal.returns-in-Err
returns-in-Err c = name_in-no_text c.args.text.now c.in-Err.ensures.cases.0

pub returns-then-is_dotted : goal.returns-then-is_dotted
returns-then-is_dotted c = name_in-dotted c.args.text.now c.in-Ok.name.now c.in-Ok.ensures.cases.0 c.in-Ok.ensures.cases.1 c.if-is_dotted.ensures

pub returns-else-is_dotted : goal.returns-else-is_dotted
returns-else-is_dotted c = name_in-other c.args.text.now c.in-Ok.name.now c.in-Ok.ensures.cases.0 c.in-Ok.ensures.cases.1 c.if-is_dotted.ensures
