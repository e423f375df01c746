use Rattle.std.proofs.Common.{◌≡◌}
use Rattle.project_reading.specs.Project.{enter_all}
use Rattle.project_reading.proofs.sources.enter_each.Given as goal

-- the files that are left decide
abbrev pub invariant-loop-source : goal.invariant-loop-source
invariant-loop-source l = enter_all l.part l.table l.source-iterator.rest.items ≡ enter_all l.part l.fn.table l.fn.sources
