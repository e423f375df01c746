use Rattle.std.proofs.Common.{◌≡◌, drop}
use Rattle.std.specs.Prelude.{filter_map}
use Rattle.apt_base.specs.Names.{with_names}
use Rattle.element_table.specs.TableElements.{canonical_at}
use Rattle.round_env.proofs.presence.add_names.Given as goal

-- those that are left decide
abbrev pub invariant-loop-each : goal.invariant-loop-each
invariant-loop-each l =
    with_names l.names (filter_map (canonical_at l.table) (drop l.each-index l.types)) ≡ with_names l.fn.names (filter_map (canonical_at l.table) l.types)
