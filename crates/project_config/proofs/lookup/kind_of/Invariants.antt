use Rattle.std.proofs.Common.{◌≡◌, drop}
use Rattle.project_config.specs.Discovery.{kind_of}
use Rattle.project_config.proofs.lookup.kind_of.Given as goal

abbrev pub invariant-loop-entry : goal.invariant-loop-entry
invariant-loop-entry l = kind_of l.name (drop l.entry-index l.kinds) ≡ kind_of l.name l.kinds
