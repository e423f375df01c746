use Rattle.type_steps.proofs.ArraysOfNumbers.{stands-around}
use Rattle.type_layers.specs.Layers.{mirror_of}
use Rattle.type_numbers.proofs.NumberLaws.{grows-on}
use Rattle.type_steps.proofs.arrays.in_arrays.Goals as goal

pub loop-preserved : goal.loop-preserved
unfolding mirror_of
loop-preserved c = record {
  stands = stands-around c.args.types.now c.loop.types c.intern.new.self c.loop.number c.in_ok-number.number c.args.item c.loop.counter c.loop.invariant.stands c.in_ok-number.ensures.stands;
  grows = grows-on c.args.types.now c.loop.types c.intern.new.self c.loop.invariant.grows c.in_ok-number.ensures.grows;
}
