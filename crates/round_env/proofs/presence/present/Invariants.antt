use Rattle.std.proofs.Common.{◌≡◌, drop}
use Rattle.std.specs.FinMap as fin
use Rattle.round_env.specs.Presence.{with_names_at}
use Rattle.round_env.proofs.presence.present.Given as goal

-- the units that are left decide
abbrev pub invariant-loop-root : goal.invariant-loop-root
invariant-loop-root l =
    (l.gathered.presence ≡ l.table) × (with_names_at l.table l.gathered.names (drop l.root-index l.roots) ≡ with_names_at l.table fin.empty l.roots)
