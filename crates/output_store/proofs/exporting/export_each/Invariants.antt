use Rattle.std.proofs.Common.{◌≡◌, ◌≤◌, length, take}
use Rattle.apt_outside.specs.Count.{Told}
use Rattle.output_store.specs.Output.{published_by}
use Rattle.output_store.specs.Exporting.{Exports}
use Rattle.output_store.proofs.exporting.export_each.Given as goal

-- the count of faults did not fall, and the files so far are put and counted
abbrev pub invariant-loop-file : goal.invariant-loop-file
invariant-loop-file g l =
    let T = g.T.Tree in
    let front = published_by (T.files l.fn.tree) (take l.file-index l.files) in
    record {
      later : T.faults l.fn.tree ≤ T.faults l.tree;
      small : l.count ≤ l.file-index;
      counted : Told T.tells (l.count ≡ length front);
      put : Told T.tells (Exports l.folder front (T.files l.fn.tree) (T.files l.tree));
    }
