use Rattle.std.proofs.Common.{Some, option_map, refl, sym, ap, subst, ◌∙◌}
use Rattle.name_resolve.specs.Placed.{IsPlaced}
use Rattle.name_resolve.specs.Shown.{find_of}
use Rattle.annotation_presence.specs.declared.carried.Carried.{Carried}
use Rattle.annotation_values.specs.ElementValues.{with_defaults}
use Rattle.annotation_values.proofs.PlacedCarried.{placed-item, carried-item}
use Rattle.annotation_values.proofs.annotations.numbered_with_defaults.Goals as goal

pub with_defaults-requires : goal.with_defaults-requires
with_defaults-requires c =
    let table = c.args.values.now in
    let list = c.args.list.now in
    let found = c.in-Some.ensures.lookup in
    record {
      placed = subst (λ (m : Carried). IsPlaced table (find_of m.at)) (sym found.1)
          (placed-item table list c.args.number c.in-Some.carried.now found.3.0 c.requires.placed);
    }

pub returns-in_ok-all-in-Some-clause-value : goal.returns-in_ok-all-in-Some-clause-value
returns-in_ok-all-in-Some-clause-value c =
    let table = c.args.values.now in
    let list = c.args.list.now in
    let found = c.in-Some.ensures.lookup in
    ap Some c.in_ok-all-in-Some.ensures.value
    ∙ sym (ap (option_map (with_defaults table)) (carried-item list c.args.number c.in-Some.carried.now _ refl found.3.0 found.1))
