use Rattle.std.proofs.Common.{None, Some}
use Rattle.type_subtypes.specs.Numbers.{sub_at}
use Rattle.type_subtypes.proofs.AskedNext.{found, known-decided, not-decided, subtypes-decided, subtypes-open, subtypes-up}
use Rattle.type_subtypes.proofs.relation.SubtypesRelationTypes.next.Goals as goal

pub returns-in-Some-clause-next : goal.returns-in-Some-clause-next
returns-in-Some-clause-next c =
    subtypes-decided c.args.self.now c.args.types.now c.args.pair c.in-Some.next
    (known-decided c.args.self.now c.args.types.now c.args.pair c.in_ok-next.field-0 (Some c.in-Some.next) c.in-Some.is c.in_ok-next.ensures)

pub returns-in-None-clause-next : goal.returns-in-None-clause-next
returns-in-None-clause-next c =
    subtypes-open c.args.self.now c.args.types.now c.direct_of.new.types c.args.pair
    (not-decided c.args.self.now c.args.types.now c.args.pair c.in_ok-next.field-0 c.in_default.not-Some c.in_ok-next.ensures)
    (found c.self.inside.table.now c.args.self.now c.direct_of.new.types (sub_at c.args.types.now c.args.pair) c.in_ok-direct_of.field-0 None c.self.view_is c.in-None.is
    c.in_ok-direct_of.ensures.stands)

pub returns-in-Some-2-clause-next : goal.returns-in-Some-2-clause-next
returns-in-Some-2-clause-next c =
    subtypes-up c.args.self.now c.args.types.now c.direct_of.new.types c.args.pair c.in-Some-2.supertypes c.into_vec.result
    (not-decided c.args.self.now c.args.types.now c.args.pair c.in_ok-next.field-0 c.in_default.not-Some c.in_ok-next.ensures)
    (found c.self.inside.table.now c.args.self.now c.direct_of.new.types (sub_at c.args.types.now c.args.pair) c.in_ok-direct_of.field-0 (Some c.in-Some-2.supertypes) c.self.view_is
    c.in-Some-2.is c.in_ok-direct_of.ensures.stands)
    c.into_vec.ensures
