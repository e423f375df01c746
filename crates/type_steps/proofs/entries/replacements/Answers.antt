use Rattle.std.proofs.Common.{◌<◌, ℕ, Option, sym, subst}
use Rattle.type_steps.proofs.NumberedEntries.{HasLeft, size_of, left-all, left-next, left-less, left-none}
use Rattle.type_steps.proofs.entries.replacements.Goals as goal

pub loop-left-init : goal.loop-left-init
loop-left-init c = left-all c.args.table.now c.args.types.now c.args.number c.new-by.result c.requires c.new-by.ensures

pub loop-left-smaller : goal.loop-left-smaller
loop-left-smaller c = subst (λ (o : Option ℕ). size_of c.in_ok-left.left < size_of o) (sym c.in-Some.is) (left-less c.in-Some.of c.in_ok-left.left c.in_ok-left.ensures.falls)

pub loop-left-preserved : goal.loop-left-preserved
loop-left-preserved c =
    left-next c.args.table.now c.args.types.now c.args.number c.in-Some.of c.in_ok-left.left c.loop-left.by c.add_class.new.by
    (subst (λ (o : Option ℕ). HasLeft c.args.table.now c.args.types.now c.args.number o c.loop-left.by) c.in-Some.is c.loop-left.invariant)
    c.in_ok-left.ensures.known c.in_ok-left.ensures.falls c.in_ok-left.ensures.left

pub returns-clause-exact : goal.returns-clause-exact
returns-clause-exact c = left-none c.args.table.now c.args.types.now c.args.number c.loop-left.left c.loop-left.by c.loop-left.invariant c.in_default.is
