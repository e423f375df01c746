use Rattle.type_steps.proofs.NumberedEntries.{own-step, own-keys, own-values}
use Rattle.type_steps.proofs.entries.add_own.Goals as goal

pub returns-then-place-arguments : goal.returns-then-place-arguments
returns-then-place-arguments c =
    own-values c.args.by.now c.loop-place.by c.args.parameters.now c.args.arguments.now c.loop-place.place c.loop-place.invariant c.if-place-arguments.true

pub loop-place-preserved : goal.loop-place-preserved
loop-place-preserved c =
    own-step c.args.by.now c.loop-place.by c.add_entry.new.by c.args.parameters.now c.args.arguments.now c.loop-place.place c.index-parameters-place.result c.loop-place-test.true
    c.if-place-arguments.false c.loop-place.invariant c.index-parameters-place.is c.in_ok-add_entry.ensures

pub returns : goal.returns
returns c = own-keys c.args.by.now c.loop-place.by c.args.parameters.now c.args.arguments.now c.loop-place.place c.loop-place.invariant c.loop-place-test.false
