use Rattle.std.proofs.Common.{sym}
use Rattle.processor_claims.specs.Lines.{is_line_end}
use Rattle.processor_claims.proofs.FirstPlaces.{place-none}
use Rattle.processor_claims.proofs.lines.line_len.Goals as goal

pub returns-in-None : goal.returns-in-None
returns-in-None c = sym (place-none is_line_end c.args.text.now c.in-None.ensures)
