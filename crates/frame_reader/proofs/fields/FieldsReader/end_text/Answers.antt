use Rattle.frame_reader.proofs.fields.FieldsReader.end_text.Goals as goal

pub returns-in-Plain-clause-ok : goal.returns-in-Plain-clause-ok
returns-in-Plain-clause-ok c = c.end_plain.ensures c.args.rule (rw c.in-Plain.is tt)

pub returns-in-None-clause-ok : goal.returns-in-None-clause-ok
returns-in-None-clause-ok c = c.end_plain-in-None.ensures c.args.rule (rw (c.in-Listed.is, c.in-None.is) tt)
