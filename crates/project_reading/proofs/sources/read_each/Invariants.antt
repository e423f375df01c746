use Rattle.std.proofs.Common.{◌≡◌, drop}
use Rattle.tree_store.specs.Sources.{AreShort}
use Rattle.project_reading.specs.Project.{read_from, read_all}
use Rattle.project_reading.proofs.sources.read_each.Given as goal

-- the files that are left decide, and none of them has too many bytes
abbrev pub invariant-loop-source : goal.invariant-loop-source
invariant-loop-source l = record {
  way : read_from l.part l.read (drop l.source-index l.sources) ≡ read_all l.part l.sources;
  short : AreShort (drop l.source-index l.sources);
}
