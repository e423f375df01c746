use Rattle.std.proofs.Common.{◌≡◌, drop}
use Rattle.std.specs.FinMap as fin
use Rattle.project_units.specs.Creations.{gathered, with_source}
use Rattle.project_units.proofs.sources.sources_among.Given as goal

-- the creations that are left decide
abbrev pub invariant-loop-creation : goal.invariant-loop-creation
invariant-loop-creation l = gathered with_source l.sources (drop l.creation-index l.made) ≡ gathered with_source fin.empty l.made
