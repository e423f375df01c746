use Rattle.apt_base.proofs.FieldsLemmas.{is_text-of_utf8, is_text-fails}
use Rattle.frame_reader.proofs.fields.text_of.Goals as goal

pub returns-in-Ok-clause-some : goal.returns-in-Ok-clause-some
returns-in-Ok-clause-some c = (is_text-of_utf8 c.args.bytes.now c.in-Ok.ensures.cases.1, c.in-Ok.ensures.cases.0)

pub returns-in-Err-clause-none : goal.returns-in-Err-clause-none
returns-in-Err-clause-none c = is_text-fails c.args.bytes.now c.in-Err.ensures.cases.0
