use Rattle.std.proofs.Common.{subst, ◌∙◌}
use Rattle.element_table.specs.TypeTable.{TypeTable}
use Rattle.type_steps.specs.Entries.{Replaces}
use Rattle.type_steps.proofs.HeadersOfNumbers.{header-known, header-stands}
use Rattle.type_steps.proofs.supertypes.of_header.Goals as goal

pub substitute_each-requires : goal.substitute_each-requires
substitute_each-requires c =
    let known = header-known c.args.types.now c.add_each.new.types c.in_ok-by.by c.as_slice-2.result.now c.in_ok-numbers.numbers c.as_slice-3.result.now c.as_slice.result.now
    c.in_ok-numbers.ensures.grows c.in_ok-by.ensures.known c.as_slice-2.ensures c.in_ok-numbers.ensures.stands c.as_slice-3.ensures in
    record { known = known.0; by = known.1 }

pub returns-clause-stands : goal.returns-clause-stands
returns-clause-stands c =
    header-stands c.substitute_each.result c.args.resolver.now c.args.types.now c.add_each.new.types c.substitute_each.new.types c.in_ok-by.by c.as_slice-2.result.now
    c.in_ok-numbers.numbers c.as_slice-3.result.now c.as_slice.result.now c.args.element c.args.number c.in_ok-numbers.ensures.grows c.in_ok-by.ensures.known (subst (λ (t : TypeTable). Replaces t c.args.types.now c.in_ok-by.by c.args.number) c.table-table.ensures c.in_ok-by.ensures.exact)
    c.as_slice-2.ensures c.in_ok-numbers.ensures.stands (c.as_slice.ensures ∙ c.in_ok-header.ensures.value) c.as_slice-3.ensures c.substitute_each.ensures.stands
