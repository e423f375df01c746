use Rattle.std.proofs.Common.{◌++◌, take, ap, ◌∙◌, subst, arith}
use Rattle.frame_reader.specs.Stages.{TakesRun}
use Rattle.frame_reader.proofs.Scanning.{run_in_stage, run_is_taken}
use Rattle.frame_reader.proofs.scanner.FrameScanner.take_run.Goals as goal

pub invariant_of-self-2 : goal.invariant_of-self-2
invariant_of-self-2 c =
    let items = c.in_ok-extend_from_slice.ensures.items ∙ ap (λ t. t ++ take c.min-run.result c.args.piece.now) c.reserve.ensures.items in
    run_in_stage c.in-Fields.end c.min-run.result c.self.inside.fields c.skip.new.self c.self.inside.bytes.items c.extend_from_slice.new.self.items c.args.piece.now
    (grind arith) (grind arith) (grind arith) (grind arith) c.self.inside.stage c.in-Fields.is c.skip.ensures items c.self.invariant

pub returns-clause-ok : goal.returns-clause-ok
returns-clause-ok c =
    let items = c.in_ok-extend_from_slice.ensures.items ∙ ap (λ t. t ++ take c.min-run.result c.args.piece.now) c.reserve.ensures.items in
    subst (λ held. TakesRun c.min-run.result c.args.piece.now held c.extend_from_slice.new.self.items) c.self.view_is
    (run_is_taken c.in-Fields.end c.min-run.result c.self.inside.fields c.skip.new.self c.self.inside.bytes.items c.extend_from_slice.new.self.items c.args.piece.now
    (grind arith) (grind arith) (grind arith) (grind arith) c.self.inside.stage c.in-Fields.is c.skip.ensures items c.self.invariant)
