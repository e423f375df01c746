use Rattle.std.proofs.Common.{sym, subst}
use Rattle.element_table.specs.TypeTable.{TypeTable}
use Rattle.type_resolve.specs.Scopes.{find_in}
use Rattle.annotation_presence.specs.Carried.{directly_present}
use Rattle.annotation_presence.specs.Shown.{carried_in}
use Rattle.annotation_values.specs.Remembered.{ArePlacedAt}
use Rattle.annotation_values.proofs.PlacedCarried.{directly-placed}
use Rattle.annotation_values.proofs.element_values.ElementValues.written_on.Goals as goal

pub returns-clause-placed : goal.returns-clause-placed
returns-clause-placed c =
    let table = c.self.inside.table.now in
    let at = c.args.at.now in
    let over = sym c.self.invariant.annotations in
    let there = directly-placed table c.self.invariant.is_table at in
    let placed = subst (ArePlacedAt table) (sym c.in_ok-list.ensures.value) (subst (λ (t : TypeTable). ArePlacedAt table (directly_present t (find_in t at))) over there) in
    subst (λ (t : TypeTable). ArePlacedAt t (carried_in c.in_ok-list.list.items)) c.self.view_is placed
