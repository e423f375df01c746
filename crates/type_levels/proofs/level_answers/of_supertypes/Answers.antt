use Rattle.std.proofs.Common.{◌∙◌}
use Rattle.type_levels.specs.Answers.{either}
use Rattle.type_levels.specs.Levels.{look, below_type}
use Rattle.type_levels.proofs.AnswerLemmas.{any_before}
use Rattle.type_levels.proofs.level_answers.of_supertypes.Goals as goal

pub loop-at-preserved : goal.loop-at-preserved
loop-at-preserved c =
    c.or-answer.ensures ∙ (λ i. either (c.of_supertype.ensures i) (c.loop-at.invariant i))
    ∙ any_before (λ sub. look c.args.asked.now c.args.answers.now (below_type c.args.sup sub)) c.args.types.now c.loop-at.at _ c.loop-at-test.true
