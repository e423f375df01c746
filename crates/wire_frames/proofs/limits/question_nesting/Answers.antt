use Rattle.std.proofs.Common.{◌≡◌, List, map, max, sym, ap, ◌∙◌, arith}
use Rattle.type_mirror.specs.declared.mirror.Mirror.{Mirror}
use Rattle.type_mirror.specs.Nesting.{deepest, capped, nesting}
use Rattle.wire_frames.specs.declared.question.Question.{Question}
use Rattle.wire_frames.proofs.LimitsLemmas.{depth_of_question, depth-MemberType, depth-DeclaredType, shallow_question}
use Rattle.wire_frames.proofs.limits.question_nesting.Goals as goal

pub returns-in-Mirror : goal.returns-in-Mirror
returns-in-Mirror c = c.depth.ensures ∙ ap (λ (question : Question). capped (depth_of_question question)) (sym c.in-Mirror.is)

pub returns-in-Mirrors : goal.returns-in-Mirrors
returns-in-Mirrors c =
    let whole : depth_of_question c.args.question.now ≡ max (nesting c.in-Mirrors.one) (nesting c.in-Mirrors.other) = ap depth_of_question c.in-Mirrors.is in
    omega (arith, whole)

pub returns-in-MemberType : goal.returns-in-MemberType
returns-in-MemberType c =
    c.depth-in-MemberType.ensures ∙ ap capped (sym (ap depth_of_question c.in-MemberType.is ∙ depth-MemberType c.in-MemberType.container c.in-MemberType.element))

pub returns-in-DeclaredType : goal.returns-in-DeclaredType
returns-in-DeclaredType c =
    c.deepest_mirror.ensures
    ∙ ap capped (ap (λ (list : List Mirror). deepest (map nesting list)) c.as_slice.ensures ∙ sym (ap depth_of_question c.in-DeclaredType.is ∙ depth-DeclaredType c.in-DeclaredType.element c.in-DeclaredType.arguments))

pub returns-in_default : goal.returns-in_default
returns-in_default c =
    ap capped (sym (shallow_question c.args.question.now c.in_default.not-Mirror c.in_default.not-Mirrors c.in_default.not-MemberType c.in_default.not-DeclaredType))
