use Rattle.std.proofs.Common.{◌≤◌}
use Rattle.apt_outside.specs.Count.{Told}
use Rattle.output_store.specs.Output.{RemovesAll}
use Rattle.output_store.proofs.RemovalLemmas.{unkept_front}
use Rattle.output_store.proofs.removing.remove_others.Given as goal

-- the count did not fall, and the files so far are removed
abbrev pub invariant-loop-path : goal.invariant-loop-path
invariant-loop-path g l =
    let T = g.T.Tree in
    record {
      later : T.faults l.fn.tree ≤ T.faults l.tree;
      removed : Told T.tells (RemovesAll (unkept_front l.kept l.paths l.path-index) (T.files l.fn.tree) (T.files l.tree));
    }
