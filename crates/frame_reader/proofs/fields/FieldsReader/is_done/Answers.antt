use Rattle.std.proofs.Common.{sym}
use Rattle.frame_reader.proofs.Following.{gather_tells, list_tells, task_tells, none_tells}
use Rattle.frame_reader.proofs.fields.FieldsReader.is_done.Goals as goal

pub returns-in-Some : goal.returns-in-Some
returns-in-Some c = gather_tells c.args.self.now c.in-Some.field-0 c.in-Some.is

pub returns-in-Some-list : goal.returns-in-Some-list
returns-in-Some-list c = list_tells c.args.self.now c.in-Some-list.field-0 c.in-None.is c.in-Some-list.is

pub returns-in-Some-last : goal.returns-in-Some-last
returns-in-Some-last c = task_tells c.args.self.now c.in-Some-last.field-0 c.in-None.is c.in-None-list.is (sym c.in-Some-last.ensures)

pub returns-in-None-last : goal.returns-in-None-last
returns-in-None-last c = none_tells c.args.self.now c.in-None.is c.in-None-list.is (sym c.in-None-last.ensures)
