use Rattle.frame_reader.proofs.Following.{task_is_bad, task_goes}
use Rattle.frame_reader.proofs.fields.FieldsReader.begin_task.Goals as goal

pub returns-in_default-clause-ok : goal.returns-in_default-clause-ok
returns-in_default-clause-ok c =
    task_is_bad c.args.task c.head_node-node.result c.head_room-room.result c.args.byte c.first_kind.result c.args.self.now c.args.place c.requires c.head_node-node.ensures c.head_room-room.ensures c.in_default.ensures c.first_kind.ensures

pub returns-clause-ok : goal.returns-clause-ok
returns-clause-ok c =
    task_goes c.args.task c.head_node-node.result c.head_room-room.result c.args.byte c.args.place c.in-Some.begun c.args.self.now c.replace_last.new.self c.gather_at-self.result c.left_behind.result c.behind_task.result
    c.requires c.head_node-node.ensures c.head_room-room.ensures c.in-Some.ensures c.left_behind.ensures c.behind_task.ensures c.in_ok-replace_last.ensures.ok c.gather_at-self.ensures
