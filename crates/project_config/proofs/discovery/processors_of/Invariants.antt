use Rattle.std.proofs.Common.{◌≡◌, drop}
use Rattle.project_config.specs.Discovery.{processors_of}
use Rattle.project_config.proofs.AnswerLaws.{onto}
use Rattle.project_config.proofs.discovery.processors_of.Given as goal

-- the processors so far, and those of the names that are left
abbrev pub invariant-loop-each : goal.invariant-loop-each
invariant-loop-each l = onto l.processors (processors_of l.rows l.kinds (drop l.each-index l.names)) ≡ processors_of l.rows l.kinds l.names
