use Rattle.std.proofs.Common.{◌≡◌, true, None, sym, ap, ◌∙◌}
use Rattle.element_table.specs.TypeTable.{TypeTable}
use Rattle.type_layers.specs.Layers.{declared_mirror}
use Rattle.type_relations.specs.Direct.{direct}
use Rattle.type_steps.specs.Supertypes.{is_raw_at}
use Rattle.type_steps.proofs.LayersOfNumbers.{copy-shows, may-same}
use Rattle.type_steps.proofs.SupertypesByLayers.{item-Primitive, item-Variable, item-raw}
use Rattle.type_steps.proofs.supertypes.of_item.Goals as goal

pub returns-in-Primitive-clause-stands : goal.returns-in-Primitive-clause-stands
returns-in-Primitive-clause-stands c =
    let exact = copy-shows c.args.types.now c.args.number c.node.result.now c.in_ok-node.node c.in_ok-node.ensures c.node.ensures.exact in
    may-same c.of_mirror.result c.of_mirror.new.types _ _
    (ap (λ (t : TypeTable). direct t c.plain-mirror.result) c.table-table.ensures ∙ ap (direct c.args.resolver.now) c.plain-mirror.ensures
    ∙ item-Primitive c.args.resolver.now c.args.types.now c.args.number c.in_ok-node.node c.in-Primitive.kind exact c.in-Primitive.is)
    c.of_mirror.ensures.stands

pub returns-in-Variable-clause-stands : goal.returns-in-Variable-clause-stands
returns-in-Variable-clause-stands c =
    let exact = copy-shows c.args.types.now c.args.number c.node.result.now c.in_ok-node.node c.in_ok-node.ensures c.node.ensures.exact in
    may-same c.of_mirror-in-Variable.result c.of_mirror-in-Variable.new.types _ _
    (ap (λ (t : TypeTable). direct t c.plain-mirror-in-Variable.result) c.table-table.ensures ∙ ap (direct c.args.resolver.now) c.plain-mirror-in-Variable.ensures
    ∙ item-Variable c.args.resolver.now c.args.types.now c.args.number c.in_ok-node.node c.in-Variable.element exact c.in-Variable.is)
    c.of_mirror-in-Variable.ensures.stands

pub returns-then-is_raw_with-clause-stands : goal.returns-then-is_raw_with-clause-stands
returns-then-is_raw_with-clause-stands c =
    let exact = copy-shows c.args.types.now c.args.number c.node.result.now c.in_ok-node.node c.in_ok-node.ensures c.node.ensures.exact in
    let raw : is_raw_at c.args.resolver.now c.in-Declared.element c.in-Declared.arguments ≡ true =
    sym (ap (is_raw_at c.args.resolver.now c.in-Declared.element) c.as_slice.ensures)
    ∙ sym (ap (λ (t : TypeTable). is_raw_at t c.in-Declared.element c.as_slice.result.now) c.table-table.ensures) ∙ sym c.is_raw_with.ensures ∙ c.if-is_raw_with.true in
    may-same c.of_mirror-then-is_raw_with.result c.of_mirror-then-is_raw_with.new.types _ _
    (ap (λ (t : TypeTable). direct t c.class_type-mirror.result) c.table-table.ensures ∙ ap (direct c.args.resolver.now) (c.class_type-mirror.ensures ∙ ap (declared_mirror c.in-Declared.element None) c.new.ensures)
    ∙ item-raw c.args.resolver.now c.args.types.now c.args.number c.in_ok-node.node c.in-Declared.element _ c.in-Declared.arguments exact c.in-Declared.is raw)
    c.of_mirror-then-is_raw_with.ensures.stands
