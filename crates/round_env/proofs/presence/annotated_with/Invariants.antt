use Rattle.std.proofs.Common.{◌≡◌, ◌++◌, drop}
use Rattle.std.specs.List.{flat_map}
use Rattle.round_env.specs.Presence.{annotated_in_unit}
use Rattle.round_env.proofs.presence.annotated_with.Given as goal

-- the elements so far, and then those of the units that are left
abbrev pub invariant-loop-root : goal.invariant-loop-root
invariant-loop-root l = record {
  table : l.gathered.presence ≡ l.table;
  name : l.gathered.name.now ≡ l.name;
  elements : l.gathered.elements ++ flat_map (annotated_in_unit l.table l.name) (drop l.root-index l.roots) ≡ flat_map (annotated_in_unit l.table l.name) l.roots;
}
