use Rattle.std.proofs.Common.{arith}
use Rattle.vector_tables.specs.FrameCases.{IsFramePassed}
use Rattle.vector_tables.proofs.CasesLemmas.{pass_more}
use Rattle.vector_tables.proofs.frame_case.all_frames_pass.Goals as goal

pub loop-case-preserved : goal.loop-case-preserved
loop-case-preserved c = pass_more IsFramePassed c.args.cases.now c.loop-case.case-index _ c.in_ok-frame_passes.field-0 c.loop-case.invariant c.loop-case-test.true c.in_ok-frame_passes.ensures c.if-not-branch.false

pub returns : goal.returns
returns c = λ k d h. c.loop-case.invariant.passed k d (omega (arith, h))
