use Rattle.std.proofs.Common.{◌≡◌, drop}
use Rattle.std.specs.FinMap as fin
use Rattle.project_units.specs.Creations.{gathered, with_unread}
use Rattle.project_units.proofs.sources.unread_among.Given as goal

-- the creations that are left decide
abbrev pub invariant-loop-creation : goal.invariant-loop-creation
invariant-loop-creation l = gathered with_unread l.names (drop l.creation-index l.made) ≡ gathered with_unread fin.empty l.made
