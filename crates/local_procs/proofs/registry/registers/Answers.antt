use Rattle.std.proofs.Common.{◌≡◌, ℕ, List, IfOk, sym, ap, ◌∙◌, subst}
use Rattle.frame_forms.specs.declared.question_row.NameQuestion.TheVariants.{AnnotatedWith}
use Rattle.wire_frames.specs.declared.frame.Frame.TheVariants as frame
use Rattle.wire_frames.specs.declared.question.Question.TheVariants as question
use Rattle.local_procs.specs.Stages.{registry_plan}
use Rattle.local_procs.proofs.Registering.{asked_too_large, asked_small}
use Rattle.local_procs.proofs.registry.registers.Goals as goal

pub returns-then-is_too_large : goal.returns-then-is_too_large
returns-then-is_too_large c =
    subst (λ plan. IfOk c.after_registered.result (λ step. registry_plan step ≡ plan))
    (asked_too_large c.args.there c.args.over c.args.kept _ c.if-not-there.false
    (ap (λ (name : List ℕ). frame.Ask (question.Name AnnotatedWith name)) c.in_ok-name.ensures) (sym c.is_too_large.ensures ∙ c.if-is_too_large.true))
    c.after_registered.ensures

pub returns : goal.returns
returns c =
    asked_small c.args.there c.args.over c.args.kept _ c.if-not-there.false
    (ap (λ (name : List ℕ). frame.Ask (question.Name AnnotatedWith name)) c.in_ok-name.ensures) (sym c.is_too_large.ensures ∙ c.if-is_too_large.false)
