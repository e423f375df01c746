use Rattle.std.proofs.Common.{sym, ap}
use Rattle.type_mirror.specs.Nesting.{capped}
use Rattle.wire_frames.proofs.LimitsLemmas.{shallow_frame}
use Rattle.wire_frames.proofs.limits.nesting.Goals as goal

pub returns-in_default : goal.returns-in_default
returns-in_default c = ap capped (sym (shallow_frame c.args.frame.now c.in_default.not-Reply c.in_default.not-Ask))
