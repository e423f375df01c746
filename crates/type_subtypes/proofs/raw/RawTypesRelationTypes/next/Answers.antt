use Rattle.std.proofs.Common.{None, Some}
use Rattle.type_subtypes.specs.Numbers.{sub_at}
use Rattle.type_subtypes.proofs.AskedNext.{found, raw-open, raw-reached, raw-up}
use Rattle.type_subtypes.proofs.raw.RawTypesRelationTypes.next.Goals as goal

pub returns-then-is_reached-clause-next : goal.returns-then-is_reached-clause-next
returns-then-is_reached-clause-next c = raw-reached c.args.self.now c.args.types.now c.args.pair c.is_reached.result c.is_reached.ensures c.if-is_reached.true

pub returns-in-None-clause-next : goal.returns-in-None-clause-next
returns-in-None-clause-next c =
    raw-open c.args.self.now c.args.types.now c.direct_of.new.types c.args.pair c.is_reached.result c.is_reached.ensures c.if-is_reached.false
    (found c.self.inside.table.now c.args.self.now c.direct_of.new.types (sub_at c.args.types.now c.args.pair) c.in_ok-direct_of.field-0 None c.self.view_is c.in-None.is
    c.in_ok-direct_of.ensures.stands)

pub returns-in-Some-clause-next : goal.returns-in-Some-clause-next
returns-in-Some-clause-next c =
    raw-up c.args.self.now c.args.types.now c.direct_of.new.types c.args.pair c.is_reached.result c.in-Some.supertypes c.into_vec.result c.is_reached.ensures c.if-is_reached.false
    (found c.self.inside.table.now c.args.self.now c.direct_of.new.types (sub_at c.args.types.now c.args.pair) c.in_ok-direct_of.field-0 (Some c.in-Some.supertypes) c.self.view_is
    c.in-Some.is c.in_ok-direct_of.ensures.stands)
    c.into_vec.ensures
