use Rattle.decl_syntax.proofs.Spelled.{is_only}
use Rattle.decl_syntax.proofs.unit_writing.shape.Goals as goal

pub returns-clause-only : goal.returns-clause-only
returns-clause-only c = is_only c.args.of.now (rw c.text.ensures.value at c.text.ensures.legal)
