use Rattle.std.proofs.Common.{sym, ◌∙◌}
use Rattle.std.proofs.lemmas.Result.{on_ok_weaker}
use Rattle.type_numbers.specs.Numbers.{at}
use Rattle.type_members.proofs.GatheredTypes.{adds_class}
use Rattle.type_members.proofs.reaching.add_type.Goals as goal

pub returns-in_ok-class-in-Some-clause-adds : goal.returns-in_ok-class-in-Some-clause-adds
returns-in_ok-class-in-Some-clause-adds c =
    let of = sym c.in_ok-class_element.ensures ∙ c.in-Some.is in
    on_ok_weaker c.add.result (
    λ added.
    adds_class c.args.types.now c.bare_class.new.types c.args.reached.now c.add.new.self (at c.args.types.now c.args.number) c.in-Some.element c.in_ok-class-in-Some.class
    c.requires.reached c.in_ok-class-in-Some.ensures.grows of c.in_ok-class-in-Some.ensures.stands added
    )
    c.add.ensures
