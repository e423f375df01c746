use Rattle.std.proofs.Common.{◌≡◌, drop}
use Rattle.std.specs.Prelude.{filter_map}
use Rattle.std.specs.List.{list_any}
use Rattle.std.specs.Str.{bytes_eq}
use Rattle.element_table.specs.TableElements.{canonical_at}
use Rattle.round_env.proofs.presence.has_name.Given as goal

-- those that are left decide
abbrev pub invariant-loop-each : goal.invariant-loop-each
invariant-loop-each l =
    list_any (bytes_eq l.name) (filter_map (canonical_at l.table) (drop l.each-index l.types))
    ≡ list_any (bytes_eq l.name) (filter_map (canonical_at l.table) l.types)
