use Rattle.std.proofs.Common.{◌≡◌, drop}
use Rattle.apt_base.specs.Names.{with_names}
use Rattle.reach_map.specs.Candidates.{import_prefixes}
use Rattle.reach_map.proofs.gathered.add_imports.Given as goal

-- what is so far, with what is left, is the whole
abbrev pub invariant-loop-import : goal.invariant-loop-import
invariant-loop-import l = with_names l.names (import_prefixes (drop l.import-index l.imports)) ≡ with_names l.initial.names (import_prefixes l.imports)
