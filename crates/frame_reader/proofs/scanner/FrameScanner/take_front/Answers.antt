use Rattle.frame_reader.proofs.Scanning.{run_is_front}
use Rattle.frame_reader.proofs.scanner.FrameScanner.take_front.Goals as goal

pub returns-then-run-gt0-clause-ok : goal.returns-then-run-gt0-clause-ok
returns-then-run-gt0-clause-ok c = run_is_front c.in_ok-run.run' c.args.piece.now c.args.self.now c.take_run.new.self c.if-run-gt0.true c.in_ok-run.ensures.ok
