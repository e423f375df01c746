use Rattle.std.proofs.Common.{[], ◌∷◌, map, refl, ap}
use Rattle.std.specs.List.{flat_map}
use Rattle.name_resolve.specs.Supertypes.{part_name}
use Rattle.reach_map.specs.Chains.{of_option, type_chains, argument_chains}
use Rattle.reach_map.proofs.CandidateSetsLemmas.{with_next, with_both, with_none}
use Rattle.reach_map.proofs.ChainsLemmas.{type_chains-Named, type_chains-Primitive, type_chains-Wildcard}
use Rattle.reach_map.proofs.types.+types.Goals as goal

pub add_parts-loop-part-preserved : goal.add_parts-loop-part-preserved
add_parts-loop-part-preserved t c = with_next _ argument_chains _ _ _ _ _ c.part-item.result c.part-item.result c.loop-part-test.true c.part-item.is c.loop-part.invariant c.in_ok-add_arguments.ensures

pub add_types-loop-text-preserved : goal.add_types-loop-text-preserved
add_types-loop-text-preserved t c = with_next _ type_chains _ _ _ _ _ c.text-item.result c.text-item.result c.loop-text-test.true c.text-item.is c.loop-text.invariant c.in_ok-add_type.ensures

pub add_parts-loop-part-init : goal.add_parts-loop-part-init
add_parts-loop-part-init t c = with_none c.args.unit.now c.args.names.now [] refl

pub add_types-loop-text-init : goal.add_types-loop-text-init
add_types-loop-text-init t c = with_none c.args.unit.now c.args.names.now [] refl

pub add_arguments-returns-in-None : goal.add_arguments-returns-in-None
add_arguments-returns-in-None t c = with_none c.args.unit.now c.args.names.now (argument_chains c.args.part.now) (ap (of_option (flat_map type_chains)) c.in-None.is)

pub add_type-returns-in_ok-add_names-in-Named : goal.add_type-returns-in_ok-add_names-in-Named
add_type-returns-in_ok-add_names-in-Named t c =
    let parts = c.in-Named.parts in
    with_both c.add_parts.result c.args.unit.now c.args.names.now c.add_names.new.names c.add_parts.new.names (map part_name parts ∷ []) (flat_map argument_chains parts) (type_chains c.args.text.now)
    (rw c.as_slice.ensures at c.in_ok-add_names-in-Named.ensures) (type_chains-Named c.args.text.now parts c.in-Named.is) (rw c.as_slice-in-Named.ensures at c.add_parts.ensures)

pub add_type-returns-in-Primitive : goal.add_type-returns-in-Primitive
add_type-returns-in-Primitive t c =
    with_none c.args.unit.now c.args.names.now (type_chains c.args.text.now) (type_chains-Primitive c.args.text.now c.in-Primitive.field-0 c.in-Primitive.is)

pub add_type-returns-in-Wildcard : goal.add_type-returns-in-Wildcard
add_type-returns-in-Wildcard t c = with_none c.args.unit.now c.args.names.now (type_chains c.args.text.now) (type_chains-Wildcard c.args.text.now c.in-Wildcard.is)
