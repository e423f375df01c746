use Rattle.std.proofs.Common.{◌≡◌, map, All}
use Rattle.tree_store.specs.RecordFormat.{IsEntry}
use Rattle.apt_host.specs.Listed.{entry_of, numbered_of}
use Rattle.apt_host.proofs.publish.prepare.Given as goal

-- the entries and the files of the store so far are those of what came so far
abbrev pub invariant-loop-file : goal.invariant-loop-file
invariant-loop-file l = record {
  entries : l.entries ≡ map entry_of l.yielded;
  stored : l.stored ≡ map numbered_of l.yielded;
  fit : All IsEntry l.entries;
}
