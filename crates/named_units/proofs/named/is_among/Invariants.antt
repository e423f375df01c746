use Rattle.std.proofs.Common.{◌≡◌, drop}
use Rattle.std.specs.List.{list_any}
use Rattle.std.specs.Str.{bytes_eq}
use Rattle.named_units.proofs.named.is_among.Given as goal

-- the rest decides
abbrev pub invariant-loop-each : goal.invariant-loop-each
invariant-loop-each l = list_any (bytes_eq l.name) (drop l.each-index l.names) ≡ list_any (bytes_eq l.name) l.names
