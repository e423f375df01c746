use Rattle.std.proofs.Common.{◌≡◌}
use Rattle.tree_store.specs.Sources.{AreShort}
use Rattle.project_reading.specs.Project.{read_from, read_all}
use Rattle.project_reading.proofs.sources.read_each_once.Given as goal

-- the rest of the files decides, and none of them has too many bytes
abbrev pub invariant-loop-source : goal.invariant-loop-source
invariant-loop-source l = record {
  way : read_from l.part l.read l.source-iterator.rest.items ≡ read_all l.part l.fn.sources;
  short : AreShort l.source-iterator.rest.items;
}
