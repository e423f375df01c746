use Rattle.std.proofs.Common.{◌≡◌, ◌≤◌}
use Rattle.apt_outside.specs.Count.{Told}
use Rattle.tree_store.specs.Sources.{AreShort}
use Rattle.tree_store.proofs.SourceLimits.{AreOnTheWay}
use Rattle.tree_store.proofs.sources.read_each.Given as goal

-- the count did not fall, the files are as they were, the paths so far gave the sources so far, and the rest decide
abbrev pub invariant-loop-path : goal.invariant-loop-path
invariant-loop-path g l =
    let T = g.T.Tree in
    record {
      later : T.faults l.fn.tree ≤ T.faults l.tree;
      same : Told T.tells (T.files l.tree ≡ T.files l.fn.tree);
      way : Told T.tells (AreOnTheWay l.folder (T.files l.fn.tree) l.paths l.path-index l.sources l.left);
      short : AreShort l.sources;
    }
