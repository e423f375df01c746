use Rattle.std.proofs.Common.{List, ℕ, map, sym, ap, ◌∙◌}
use Rattle.type_mirror.specs.declared.mirror.Mirror.{Mirror}
use Rattle.type_mirror.specs.declared.value.Value.{Value}
use Rattle.type_mirror.specs.declared.value.Annotation.{Annotation}
use Rattle.type_mirror.specs.Nesting.{deepest, capped, nesting, annotation_nesting}
use Rattle.wire_frames.specs.Limits.{nesting_of_named}
use Rattle.wire_frames.proofs.LimitsLemmas.{depth_of_reply, depth-Annotations, depth-Values, depth-Mirrors, shallow_reply}
use Rattle.wire_frames.proofs.limits.reply_nesting.Goals as goal

pub returns-in-Annotations : goal.returns-in-Annotations
returns-in-Annotations c =
    c.deepest_annotation.ensures
    ∙ ap capped (ap (λ (list : List Annotation). deepest (map annotation_nesting list)) c.as_slice.ensures ∙ sym (ap depth_of_reply c.in-Annotations.is ∙ depth-Annotations c.in-Annotations.annotations))

pub returns-in-Values : goal.returns-in-Values
returns-in-Values c =
    c.deepest_value.ensures
    ∙ ap capped (ap (λ (list : List (List ℕ × Value)). deepest (map nesting_of_named list)) c.as_slice-in-Values.ensures ∙ sym (ap depth_of_reply c.in-Values.is ∙ depth-Values c.in-Values.values))

pub returns-in-Mirrors : goal.returns-in-Mirrors
returns-in-Mirrors c =
    c.deepest_mirror.ensures
    ∙ ap capped (ap (λ (list : List Mirror). deepest (map nesting list)) c.as_slice-in-Mirrors.ensures ∙ sym (ap depth_of_reply c.in-Mirrors.is ∙ depth-Mirrors c.in-Mirrors.mirrors))

pub returns-in_default : goal.returns-in_default
returns-in_default c = ap capped (sym (shallow_reply c.args.reply.now c.in_default.not-Annotations c.in_default.not-Values c.in_default.not-Mirrors))
