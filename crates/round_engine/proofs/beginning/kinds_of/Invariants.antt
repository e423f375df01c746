use Rattle.std.proofs.Common.{◌≡◌, take, map}
use Rattle.project_units.specs.Plans.{kind_of}
use Rattle.round_engine.proofs.beginning.kinds_of.Given as goal

-- the kinds so far
abbrev pub invariant-loop-processor : goal.invariant-loop-processor
invariant-loop-processor l = l.kinds ≡ map kind_of (take l.processor-index l.processors)
