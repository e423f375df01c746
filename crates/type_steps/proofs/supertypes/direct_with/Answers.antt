use Rattle.std.proofs.Common.{List, Option, sym, ap, subst, ◌∙◌}
use Rattle.element_table.specs.TypeTable.{TypeTable}
use Rattle.type_mirror.specs.declared.mirror.Mirror.{Mirror}
use Rattle.type_numbers.specs.Numbers.{at}
use Rattle.type_numbers.proofs.NumberLaws.{grows-on}
use Rattle.type_steps.specs.Supertypes.{AllMayStand, in_array}
use Rattle.type_steps.proofs.SupertypesByLayers.{direct-item, arrays-not_primitive, next-types}
use Rattle.type_steps.proofs.supertypes.direct_with.Goals as goal

pub loop-init : goal.loop-init
loop-init c = record {
  stand = subst (λ (ms : Option (List Mirror)). AllMayStand c.of_item.new.types c.in_ok-all.all ms)
      (sym (direct-item c.args.resolver.now (at c.args.types.now c.item_of-around.result.1) c.item_of-around.ensures.item)) c.in_ok-all.ensures.stands;
  primitive = c.is_primitive-primitive.ensures;
  grows = c.in_ok-all.ensures.grows;
}

pub loop-preserved : goal.loop-preserved
loop-preserved c =
    let was = c.args.types.now in
    let item = c.item_of-around.result.1 in
    let over = ap (λ (t : TypeTable). in_array t c.loop.types c.loop.primitive c.loop.all) c.table-table.ensures in
    let next = over ∙ next-types c.args.resolver.now was c.loop.types item c.loop.counter c.loop.primitive c.loop.all c.loop.invariant.primitive c.loop.invariant.stand in
    record {
      stand = subst (λ (ms : Option (List Mirror)). AllMayStand c.of_array.new.types c.in_ok-all-2.all ms) next c.in_ok-all-2.ensures.stands;
      primitive = sym (arrays-not_primitive c.loop.counter (at was item));
      grows = grows-on was c.loop.types c.of_array.new.types c.loop.invariant.grows c.in_ok-all-2.ensures.grows;
    }
