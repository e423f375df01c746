use Rattle.std.proofs.Common.{◌≡◌, drop}
use Rattle.std.specs.List.{list_any}
use Rattle.std.specs.Str.{bytes_eq}
use Rattle.local_procs.proofs.child.is_offered.Given as goal

-- the rest decides
abbrev pub invariant-loop-each : goal.invariant-loop-each
invariant-loop-each l = list_any (bytes_eq l.name) (drop l.each-index l.offered) ≡ list_any (bytes_eq l.name) l.offered
