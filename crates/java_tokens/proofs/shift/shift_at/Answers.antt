use Rattle.std.proofs.Common.{leb, rules}
use Rattle.std.proofs.lemmas.List.Sorted.{IsPartitionedBy-leb, IsPartitionPoint-from_clause}
use Rattle.java_tokens.proofs.Shifts.{shift_none, shift_some}
use Rattle.java_tokens.proofs.shift.shift_at.Goals as goal

pub returns-then-begun-eq0 : goal.returns-then-begun-eq0
returns-then-begun-eq0 c =
    shift_none c.args.shifts.now c.args.place c.partition_point-begun.result c.if-begun-eq0.true
    (IsPartitionPoint-from_clause (λ s. leb s.place c.args.place) c.args.shifts.now _ c.partition_point-begun.ensures.partitioned (IsPartitionedBy-leb (λ s. s.place) c.args.shifts.now c.args.place c.requires) (λ a r f' k. search rules))

pub returns : goal.returns
returns c =
    shift_some c.args.shifts.now c.args.place c.partition_point-begun.result _ c.if-begun-eq0.false c.partition_point-begun.ensures.bound
    (IsPartitionPoint-from_clause (λ s. leb s.place c.args.place) c.args.shifts.now _ c.partition_point-begun.ensures.partitioned (IsPartitionedBy-leb (λ s. s.place) c.args.shifts.now c.args.place c.requires) (λ a r f' k. search rules))
