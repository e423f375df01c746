use Rattle.frame_reader.proofs.Scanning.{fields_bad, fields_behind_last, fields_go_on, fields_end, fields_end_early}
use Rattle.frame_reader.proofs.stage.in_fields.Goals as goal

pub returns-then-bytes-end-clause-ok : goal.returns-then-bytes-end-clause-ok
returns-then-bytes-end-clause-ok c held split w =
    fields_go_on c.args.end c.args.fields.now c.take.new.self c.args.bytes.now c.args.byte c.in_ok-kind.field-0 c.in_ok-kind.ensures.ok held split w c.in-On.is c.if-bytes-end.true

pub returns-then-is_done-clause-ok : goal.returns-then-is_done-clause-ok
returns-then-is_done-clause-ok c held split w =
    fields_end c.args.end c.args.fields.now c.take.new.self c.args.bytes.now c.args.byte c.in_ok-kind.field-0 c.in_ok-kind.ensures.ok held split w c.in-On.is c.if-bytes-end.false c.is_done.result c.if-is_done.true c.is_done.ensures

pub returns-in-Bad-clause-ok : goal.returns-in-Bad-clause-ok
returns-in-Bad-clause-ok c held split w =
    fields_bad c.args.end c.args.fields.now c.take.new.self c.args.bytes.now c.args.byte c.in_ok-kind.field-0 c.in_ok-kind.ensures.ok held split w c.in-Bad.kind c.in-Bad.is

pub returns-in-Behind-clause-ok : goal.returns-in-Behind-clause-ok
returns-in-Behind-clause-ok c held split w =
    fields_behind_last c.args.end c.args.fields.now c.take.new.self c.args.bytes.now c.args.byte c.in_ok-kind.field-0 c.in_ok-kind.ensures.ok held split w c.in-Behind.is

pub returns-else-is_done-clause-ok : goal.returns-else-is_done-clause-ok
returns-else-is_done-clause-ok c held split w =
    fields_end_early c.args.end c.args.fields.now c.take.new.self c.args.bytes.now c.args.byte c.in_ok-kind.field-0 c.in_ok-kind.ensures.ok held split w c.in-On.is c.if-bytes-end.false c.is_done.result c.if-is_done.false c.is_done.ensures
