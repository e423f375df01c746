use Rattle.std.proofs.Common.{is_some, sym, ap, ◌∙◌}
use Rattle.element_table.specs.UnitNames.{unit_name}
use Rattle.element_table.specs.TypeTable.{part_of}
use Rattle.unit_locations.specs.LocatedTable.{LocatedTable, located}
use Rattle.unit_locations.proofs.LocatedLemmas.{is-there, not-located, located-grown}
use Rattle.unit_locations.proofs.located.LocatedTable.enter.Goals as goal

pub returns-then-is_some-clause-answer : goal.returns-then-is_some-clause-answer
returns-then-is_some-clause-answer c =
    is-there c.args.self.now.table c.args.unit (
    ap (λ (t : LocatedTable). is_some (part_of t.table (unit_name c.args.unit))) (sym c.self.view_is)
    ∙ ap (λ n. is_some (part_of c.self.inside.table n)) (sym c.in-Ok.ensures)
    ∙ ap is_some (sym c.part.ensures)
    ∙ sym c.is_some.ensures
    ∙ c.if-is_some.true
    )

pub enter_both-requires : goal.enter_both-requires
enter_both-requires c =
    not-located (located c.self.inside.table c.self.inside.locations) c.in-Ok.name c.self.invariant (ap is_some (sym c.part.ensures) ∙ sym c.is_some.ensures ∙ c.if-is_some.false)

pub invariant_of-self : goal.invariant_of-self
invariant_of-self c =
    located-grown c.args.part c.args.unit c.args.location c.in-Ok.name c.self.inside.table c.enter_both.new.table c.self.inside.locations c.enter_both.new.locations
    c.self.invariant c.in-Ok.ensures c.in-Ok-enter_both.ensures.table c.in-Ok-enter_both.ensures.locations
