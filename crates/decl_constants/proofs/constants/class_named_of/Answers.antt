use Rattle.decl_tree.specs.declared.type_text.BaseType.TheVariants as base
use Rattle.decl_grammar.specs.declared.fault.ReadFault.TheVariants as faults
use Rattle.decl_grammar.specs.Constants.{class_end, symbol_seen, name_part}
use Rattle.std.proofs.Common.{◌≡◌, ◌∙◌, ap, ◌++◌, ◌∷◌, []}
use Rattle.decl_constants.proofs.Pairs.{named-goes, named-ends, dotted-fewer, class-moved}
use Rattle.decl_constants.proofs.constants.class_named_of.Goals as goal

pub returns-in-None : goal.returns-in-None
returns-in-None c = class-moved c.class_end_of.result (λ e. e ≡ faults.Memory) (class_end (base.Named c.from_vec.result) [] c.row.rest.now) _ (ap (λ ps. class_end (base.Named ps) [] c.row.rest.now) c.from_vec.ensures ∙ named-ends c.row.parts.items c.row.rest.now _ _ c.in_ok-next.ensures.0 (ap symbol_seen c.in-None.is) c.row.invariant) c.class_end_of.ensures

pub row-smaller : goal.row-smaller
row-smaller c = dotted-fewer c.row.rest.now _ _ c.in-Some.name.now c.in_ok-next.ensures.0 (ap symbol_seen c.in-Some.is) c.in_ok-next.ensures.1

pub row-preserved : goal.row-preserved
row-preserved c = named-goes c.row.parts.items _ c.row.rest.now _ _ c.in-Some.name.now _ c.in_ok-next.ensures.0 (ap symbol_seen c.in-Some.is) c.in_ok-next.ensures.1 (c.in_ok-push-in-Some.ensures.items ∙ ap (λ p. c.row.parts.items ++ p ∷ []) (c.in_ok-part_of-in-Some.ensures ∙ ap (λ t. name_part t) c.as_str.ensures)) c.row.invariant
