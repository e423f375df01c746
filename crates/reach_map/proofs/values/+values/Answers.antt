use Rattle.std.proofs.Common.{[], ◌∷◌, refl, ap, ◌∙◌}
use Rattle.std.specs.List.{flat_map}
use Rattle.apt_base.specs.Identifiers.{parts}
use Rattle.decl_tree.specs.declared.annotation.AnnotationText.{out-AnnotationText}
use Rattle.reach_map.specs.Chains.{type_chains, value_chains, pair_chains, annotation_chains}
use Rattle.reach_map.proofs.CandidateSetsLemmas.{with_next, with_both, with_same, with_none}
use Rattle.reach_map.proofs.ChainsLemmas.{value_chains-Literal, value_chains-Negated, value_chains-Joined, value_chains-Class, value_chains-Chain, value_chains-Array, value_chains-Nested, value_chains-Other, annotation_chains-is}
use Rattle.reach_map.proofs.values.+values.Goals as goal

pub add_values-loop-item-preserved : goal.add_values-loop-item-preserved
add_values-loop-item-preserved t c = with_next _ value_chains _ _ _ _ _ c.item-item.result c.item-item.result c.loop-item-test.true c.item-item.is c.loop-item.invariant c.in_ok-add_value.ensures

pub add_pairs-loop-pair-preserved : goal.add_pairs-loop-pair-preserved
add_pairs-loop-pair-preserved t c = with_next _ pair_chains _ _ _ _ _ c.pair-item.result c.pair-item.result c.loop-pair-test.true c.pair-item.is c.loop-pair.invariant c.in_ok-add_value.ensures

pub add_values-loop-item-init : goal.add_values-loop-item-init
add_values-loop-item-init t c = with_none c.args.unit.now c.args.names.now [] refl

pub add_pairs-loop-pair-init : goal.add_pairs-loop-pair-init
add_pairs-loop-pair-init t c = with_none c.args.unit.now c.args.names.now [] refl

pub add_value-returns-in-Literal : goal.add_value-returns-in-Literal
add_value-returns-in-Literal t c = with_none c.args.unit.now c.args.names.now (value_chains c.args.value.now) (ap value_chains c.in-Literal.is ∙ value_chains-Literal c.in-Literal.field-0)

pub add_value-returns-in-Negated : goal.add_value-returns-in-Negated
add_value-returns-in-Negated t c = with_none c.args.unit.now c.args.names.now (value_chains c.args.value.now) (ap value_chains c.in-Negated.is ∙ value_chains-Negated c.in-Negated.field-0)

pub add_value-returns-in-Other : goal.add_value-returns-in-Other
add_value-returns-in-Other t c = with_none c.args.unit.now c.args.names.now (value_chains c.args.value.now) (ap value_chains c.in-Other.is ∙ value_chains-Other c.in-Other.field-0)

pub add_value-returns-in-Joined : goal.add_value-returns-in-Joined
add_value-returns-in-Joined t c =
    with_same c.add_values.result c.args.unit.now c.args.names.now c.add_values.new.names (flat_map value_chains c.in-Joined.items) (value_chains c.args.value.now) (ap value_chains c.in-Joined.is ∙ value_chains-Joined c.in-Joined.items)
    (rw c.as_slice.ensures at c.add_values.ensures)

pub add_value-returns-in-Class : goal.add_value-returns-in-Class
add_value-returns-in-Class t c =
    with_same c.add_type.result c.args.unit.now c.args.names.now c.add_type.new.names (type_chains c.in-Class.of) (value_chains c.args.value.now) (ap value_chains c.in-Class.is ∙ value_chains-Class c.in-Class.of)
    c.add_type.ensures

pub add_value-returns-in-Chain : goal.add_value-returns-in-Chain
add_value-returns-in-Chain t c =
    with_same c.add_chain_text.result c.args.unit.now c.args.names.now c.add_chain_text.new.names (parts c.in-Chain.text ∷ []) (value_chains c.args.value.now) (ap value_chains c.in-Chain.is ∙ value_chains-Chain c.in-Chain.text)
    (rw c.as_str.ensures at c.add_chain_text.ensures)

pub add_value-returns-in-Array : goal.add_value-returns-in-Array
add_value-returns-in-Array t c =
    with_same c.add_values-in-Array.result c.args.unit.now c.args.names.now c.add_values-in-Array.new.names (flat_map value_chains c.in-Array.items) (value_chains c.args.value.now) (ap value_chains c.in-Array.is ∙ value_chains-Array c.in-Array.items)
    (rw c.as_slice-in-Array.ensures at c.add_values-in-Array.ensures)

pub add_value-returns-in-Nested : goal.add_value-returns-in-Nested
add_value-returns-in-Nested t c =
    with_same c.add_annotation.result c.args.unit.now c.args.names.now c.add_annotation.new.names (annotation_chains c.in-Nested.annotation) (value_chains c.args.value.now) (ap value_chains c.in-Nested.is ∙ value_chains-Nested c.in-Nested.annotation)
    c.add_annotation.ensures

pub add_annotation-returns : goal.add_annotation-returns
add_annotation-returns t c =
    let annotation = out-AnnotationText c.args.annotation.now in
    with_both c.add_pairs.result c.args.unit.now c.args.names.now c.add_chain_text.new.names c.add_pairs.new.names (parts annotation.name ∷ []) (flat_map pair_chains annotation.values) (annotation_chains c.args.annotation.now)
    (rw c.as_str.ensures at c.in_ok-add_chain_text.ensures) (annotation_chains-is c.args.annotation.now) (rw c.as_slice.ensures at c.add_pairs.ensures)
