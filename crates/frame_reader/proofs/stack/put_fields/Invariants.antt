use Rattle.std.proofs.Common.{◌≡◌, ◌+◌, ◌≤◌, ◌++◌, length, drop, vec_len, vec_capacity}
use Rattle.frame_reader.specs.Steps.{inner_tasks}
use Rattle.frame_reader.proofs.stack.put_fields.Given as goal

abbrev pub invariant-loop-left : goal.invariant-loop-left
invariant-loop-left l = record {
  within : l.left ≤ length l.fields;
  room : vec_len l.tasks + l.left ≤ vec_capacity l.tasks;
  put : l.tasks.items ≡ l.initial.tasks.items ++ inner_tasks l.room (drop l.left l.fields);
}

abbrev pub decreases-loop-left : goal.decreases-loop-left
decreases-loop-left l = l.left
