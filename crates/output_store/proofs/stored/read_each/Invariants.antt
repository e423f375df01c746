use Rattle.std.proofs.Common.{◌≡◌, ◌≤◌, ◌++◌, take, drop}
use Rattle.std.specs.Option.{option_or}
use Rattle.apt_outside.specs.Count.{Told}
use Rattle.output_store.specs.Reading.{missing_of, stored_of, FitNamed}
use Rattle.output_store.proofs.stored.read_each.Given as goal

-- the count did not fall, the files are as they were, what is found and what is to come are the whole, and what is found fits the
-- files so far
abbrev pub invariant-loop-file : goal.invariant-loop-file
invariant-loop-file g l =
    let T = g.T.Tree in
    let tree = T.files l.fn.tree in
    record {
      later : T.faults l.fn.tree ≤ T.faults l.tree;
      same : Told T.tells (T.files l.tree ≡ tree);
      missing : Told T.tells (option_or l.files.missing (missing_of tree (drop l.file-index l.named)) ≡ missing_of tree l.named);
      stored : Told T.tells (l.files.stored ++ stored_of tree (drop l.file-index l.named) ≡ stored_of tree l.named);
      fit : FitNamed (take l.file-index l.named) l.files.missing l.files.stored;
    }
