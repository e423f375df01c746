use Rattle.std.proofs.Common.{◌≡◌, true, sym, ◌∙◌, rules}
use Rattle.name_resolve.specs.Finds.{declared_types}
use Rattle.name_resolve.specs.Shown.{find_of}
use Rattle.name_resolve.proofs.Enclosing.{there-outside}
use Rattle.annotation_presence.specs.Remembered.{declares_nothing}
use Rattle.annotation_presence.proofs.OuterScopes.{scope-out}
use Rattle.annotation_presence.proofs.meanings.scope_of.Goals as goal

pub loop-here-preserved : goal.loop-here-preserved
loop-here-preserved c =
    let here = find_of c.loop-here.here in
    let there = c.loop-here.invariant.1 in
    let yes : c.in_ok-silent.silent ≡ true = search rules in
    let silent : declares_nothing here c.args.first.now ≡ true = sym c.in_ok-silent.ensures ∙ yes in (
      scope-out (find_of c.args.at.now) c.args.first.now here c.pop.new.self.items c.in-Some.field-0 c.loop-here.invariant.0 there silent c.in-Some.ensures.items,
      there-outside declared_types here c.args.first.now there c.pop.new.self.items c.in-Some.field-0 c.in-Some.ensures.items,
    )
