use Rattle.std.proofs.Common.{◌≡◌, drop}
use Rattle.apt_base.specs.Names.{with_names}
use Rattle.reach_map.specs.Candidates.{imported_names}
use Rattle.reach_map.proofs.chains.add_all_imported.Given as goal

-- what is so far, with what is left, is the whole
abbrev pub invariant-loop-import : goal.invariant-loop-import
invariant-loop-import l =
    with_names l.names (imported_names l.first (drop l.import-index l.imports)) ≡ with_names l.initial.names (imported_names l.first l.imports)
