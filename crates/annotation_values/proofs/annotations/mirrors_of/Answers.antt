use Rattle.std.proofs.Common.{sym, subst}
use Rattle.element_table.specs.TypeTable.{TypeTable}
use Rattle.name_resolve.specs.Placed.{IsPlaced}
use Rattle.name_resolve.specs.Shown.{find_of}
use Rattle.annotation_presence.specs.declared.carried.Carried.{Carried}
use Rattle.annotation_values.proofs.PlacedCarried.{placed-item}
use Rattle.annotation_values.proofs.annotations.mirrors_of.Goals as goal

pub written_annotation-requires : goal.written_annotation-requires
written_annotation-requires c =
    let table = c.args.values.now in
    let list = c.args.list.now in
    let item = c.each-item.result in
    let placed = placed-item table list c.loop-each.each-index item c.loop-each-test.true c.requires.placed in
    let here : IsPlaced table (find_of item.at) =
    subst (λ (m : Carried). IsPlaced table (find_of m.at)) (sym c.each-item.is) placed in
    record { placed = subst (λ (t : TypeTable). IsPlaced t (find_of item.at)) (sym c.loop-each.invariant.0) here }
