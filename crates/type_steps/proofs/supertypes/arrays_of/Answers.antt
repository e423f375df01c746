use Rattle.std.proofs.Common.{◌+◌, ℕ, List, take, sym, subst}
use Rattle.type_layers.specs.Layers.{mirror_of}
use Rattle.type_numbers.specs.Numbers.{IsKnown, AllStand}
use Rattle.type_numbers.proofs.LayerMaps.{all-at}
use Rattle.type_numbers.proofs.NumberLaws.{grows-on}
use Rattle.type_steps.specs.Arrays.{array_types}
use Rattle.type_steps.proofs.ArraysOfNumbers.{arrays-next}
use Rattle.type_steps.proofs.supertypes.arrays_of.Goals as goal

pub loop-item-preserved : goal.loop-item-preserved
unfolding mirror_of
loop-item-preserved c =
    let was = c.args.types.now in
    let items = c.args.items.now in
    let i = c.loop-item.item-index in
    let known = all-at (IsKnown was) items i 0 c.requires c.loop-item-test.true in
    let next = arrays-next was c.loop-item.types c.intern.new.self items i c.in_ok-one.one c.loop-item.list c.loop-item.invariant.grows known c.loop-item-test.true
    c.loop-item.invariant.stand c.in_ok-one.ensures.grows c.in_ok-one.ensures.stands in
    record {
      stand = subst (λ (ns : List ℕ). AllStand c.intern.new.self ns (array_types was (take (i + 1) items))) (sym c.in_ok-push.ensures.ok) next;
      grows = grows-on was c.loop-item.types c.intern.new.self c.loop-item.invariant.grows c.in_ok-one.ensures.grows;
    }
