use Rattle.std.proofs.Common.{◌≡◌, map}
use Rattle.std.specs.FinMap as fin
use Rattle.project_units.specs.Held.{shown_lent}
use Rattle.project_units.specs.Units.{gather_all}
use Rattle.project_units.specs.Creations.{sources_among}
use Rattle.project_units.specs.Entering.{gathered}
use Rattle.project_units.proofs.entering.enter_all.Given as goal

-- the sources that are left decide
abbrev pub invariant-loop-path : goal.invariant-loop-path
invariant-loop-path l = gather_all (gathered l.table l.roots) (map shown_lent l.path-iterator) ≡ gather_all (gathered l.fn.table fin.empty) (fin.entries (sources_among l.made))
