use Rattle.std.proofs.Common.{◌↔◌, drop}
use Rattle.reach_map.specs.Agree.{Agree, HaveSameSources}
use Rattle.reach_map.proofs.agreeing.all_agree.Given as goal

-- they agree on all, and have the same sources under all, where they do so on the rest
abbrev pub invariant-loop-name : goal.invariant-loop-name
invariant-loop-name l = record {
  agree : Agree l.one l.other (drop l.name-index l.names) ↔ Agree l.one l.other l.names;
  same : HaveSameSources l.one l.other (drop l.name-index l.names) → HaveSameSources l.one l.other l.names;
}
