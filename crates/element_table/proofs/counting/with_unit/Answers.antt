use Rattle.std.proofs.Common.{◌+◌, arith}
use Rattle.decl_elements.specs.Walk.{places}
use Rattle.element_table.specs.TypeCounts.{unit_types}
use Rattle.element_table.specs.TypeTable.{most_types}
use Rattle.element_table.specs.declared.counting.TypeCounter.{TypeCounter}
use Rattle.element_table.proofs.Counts.{counted, within_most, above_most}
use Rattle.element_table.proofs.counting.with_unit.Goals as goal

pub returns-then-counter-le-MOST_TYPES : goal.returns-then-counter-le-MOST_TYPES
unfolding unit_types
returns-then-counter-le-MOST_TYPES c =
    let start : TypeCounter = record { types = c.args.counted } in
    within_most c.walk.new.visitor.types (c.args.counted + unit_types c.args.unit.now)
    (counted (λ (counter : TypeCounter). counter.types) most_types start c.walk.new.visitor (places c.args.unit.now) (omega (arith, c.requires)) c.in_ok-walk.ensures.value)
    (omega (arith, c.if-counter-le-MOST_TYPES.true))

pub returns-else-counter-le-MOST_TYPES : goal.returns-else-counter-le-MOST_TYPES
unfolding unit_types
returns-else-counter-le-MOST_TYPES c =
    let start : TypeCounter = record { types = c.args.counted } in
    above_most c.walk.new.visitor.types (c.args.counted + unit_types c.args.unit.now)
    (counted (λ (counter : TypeCounter). counter.types) most_types start c.walk.new.visitor (places c.args.unit.now) (omega (arith, c.requires)) c.in_ok-walk.ensures.value)
    (omega (arith, c.if-counter-le-MOST_TYPES.false))
