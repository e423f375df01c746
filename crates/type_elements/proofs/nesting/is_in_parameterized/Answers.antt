use Rattle.std.proofs.Common.{ℕ, ◌<◌, List, length, subst, ap, ◌∙◌}
use Rattle.type_relations.specs.Elements.{has_type_parameters}
use Rattle.type_elements.specs.MemberElements.{front}
use Rattle.type_elements.proofs.ListsAhead.{any-next}
use Rattle.type_elements.proofs.ElementsAround.{front-next}
use Rattle.type_elements.proofs.nesting.is_in_parameterized.Goals as goal

pub loop-step-preserved : goal.loop-step-preserved
loop-step-preserved c =
    let at = c.args.at.now in
    let i = c.loop-step.step-index in
    let items = c.as_slice-step-items.result.now in
    let less : i < length at.path = subst (λ (xs : List ℕ). i < length xs) c.as_slice-step-items.ensures c.loop-step-test.true in (
      front-next at c.loop-step.around items c.push.new.self i _ c.as_slice-step-items.ensures less c.loop-step.invariant.0 c.in_ok-push.ensures.ok,
      any-next (has_type_parameters c.args.table.now) (front at) (length at.path) i _ less
          (c.if-has_type_parameters.ensures ∙ ap (has_type_parameters c.args.table.now) c.loop-step.invariant.0) c.loop-step.invariant.1,
    )
