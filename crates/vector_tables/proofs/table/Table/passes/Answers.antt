use Rattle.std.proofs.Common.{IfOk, subst, sym}
use Rattle.vector_tables.specs.Cases.{Holds, Tells, shown_case}
use Rattle.vector_tables.specs.TokenRows.{token_rows}
use Rattle.vector_tables.specs.FrameCases.{IsMet, shown_frame_case}
use Rattle.vector_tables.specs.FrameRows.{frame_rows}
use Rattle.vector_tables.specs.Answers.{AllHold}
use Rattle.vector_tables.proofs.TableOutcomes.{rows_result}
use Rattle.vector_tables.proofs.table.Table.passes.Goals as goal

pub returns-in-Tokens : goal.returns-in-Tokens
returns-in-Tokens c =
    subst (λ table. IfOk c.all_pass.result (λ passed. Tells passed (AllHold table))) (sym c.in-Tokens.is) (rows_result shown_case Holds c.token_cases.result.now token_rows c.all_pass.result c.token_cases.ensures c.all_pass.ensures)

pub returns-in-Frames : goal.returns-in-Frames
returns-in-Frames c =
    subst (λ table. IfOk c.all_frames_pass.result (λ passed. Tells passed (AllHold table))) (sym c.in-Frames.is)
    (rows_result shown_frame_case IsMet c.frame_cases.result.now frame_rows c.all_frames_pass.result c.frame_cases.ensures c.all_frames_pass.ensures)
