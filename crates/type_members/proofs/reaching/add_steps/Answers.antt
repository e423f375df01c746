use Rattle.std.proofs.Common.{List, ℕ, sym, subst, ◌∙◌}
use Rattle.std.proofs.lemmas.Result.{on_ok_weaker}
use Rattle.type_numbers.specs.Numbers.{AllStand}
use Rattle.type_members.specs.Reached.{types_from}
use Rattle.type_members.proofs.GatheredTypes.{adds_steps}
use Rattle.type_members.proofs.reaching.add_steps.Goals as goal

pub returns-in_ok-next-in-Some-clause-adds : goal.returns-in_ok-next-in-Some-clause-adds
returns-in_ok-next-in-Some-clause-adds c =
    let table = c.args.table.now in
    let between = c.types_from.new.types in
    let of = sym c.in_ok-class_element.ensures ∙ c.in-Some.is in
    let stand = subst (λ (ns : List ℕ). AllStand between ns (types_from table c.in-Some.element)) (sym c.as_slice.ensures) c.in_ok-next-in-Some.ensures.stands in
    on_ok_weaker c.add_types.result (
    λ added.
    adds_steps table c.args.types.now between c.add_types.new.types c.args.reached.now c.add_types.new.reached c.as_slice.result.now c.args.number c.in-Some.element
    of c.in_ok-next-in-Some.ensures.grows c.requires.reached stand added
    )
    c.add_types.ensures.adds
