use Rattle.std.proofs.Common.{Some, string_bytes, subst}
use Rattle.element_table.specs.MemberTypes.{ranges_of, Covers}
use Rattle.element_table.proofs.MemberLaws.{covers-more, covers-either}
use Rattle.element_table.proofs.indexed.IndexedUnits.insert.Goals as goal

pub invariant_of-self : goal.invariant_of-self
invariant_of-self c = covers-more (ranges_of c.self.inside.members) (ranges_of c.add_unit.new.self) c.self.inside.units c.self.invariant c.add_unit.ensures.keeps

pub invariant_of-self-2 : goal.invariant_of-self-2
invariant_of-self-2 c =
    let old = ranges_of c.self.inside.members in
    let new = ranges_of c.add_unit.new.self in
    let own = subst (λ name. Covers new name (Some c.args.unit)) c.as_str.ensures.value c.in-Ok.ensures.unit in
    covers-either new c.self.inside.units (covers-more old new c.self.inside.units c.self.invariant c.add_unit.ensures.keeps)
    (string_bytes c.args.name) c.args.unit own c.insert.result c.insert.new.self c.insert.ensures.ok c.insert.ensures.err
