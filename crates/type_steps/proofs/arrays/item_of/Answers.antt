use Rattle.std.proofs.Common.{◌<◌, arith}
use Rattle.type_numbers.specs.declared.node.Node.TheVariants as node
use Rattle.type_steps.proofs.ArraysOfNumbers.{item-inside}
use Rattle.type_steps.proofs.LayersOfNumbers.{node-falls}
use Rattle.type_steps.proofs.arrays.item_of.Goals as goal

pub loop-inner-preserved : goal.loop-inner-preserved
loop-inner-preserved c =
    let less : c.in-Array.inner < c.loop-inner.item = (node-falls c.loop-inner.item c.node.result.now (node.Array c.in-Array.inner) c.node.ensures.below c.in-Array.is).0 in
    record {
      known = omega (arith, less, c.loop-inner.invariant.known);
      below = omega (arith, less, c.loop-inner.invariant.below);
      whole = item-inside c.args.types.now c.args.number c.loop-inner.around c.loop-inner.item c.node.result.now c.in-Array.inner c.loop-inner.invariant.whole c.node.ensures.exact c.in-Array.is;
    }
