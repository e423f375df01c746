use Rattle.std.proofs.Common.{◌≤◌, ◌<◌, ◌^◌, All, take}
use Rattle.apt_outside.specs.Count.{Told}
use Rattle.output_store.specs.Publishing.{paths_of, AreWritten, ChangesAmong}
use Rattle.output_store.proofs.publishing.put_files.Given as goal

-- the count did not fall, the files so far stand in the store, and nothing but their paths changed
abbrev pub invariant-loop-number : goal.invariant-loop-number
invariant-loop-number g l =
    let T = g.T.Tree in
    let front = take l.number-index l.number-items in
    record {
      later : T.faults l.fn.tree ≤ T.faults l.tree;
      small : All (λ file. file.0 < 2 ^ 32) front;
      only : Told T.tells (ChangesAmong (paths_of front) (T.files l.fn.tree) (T.files l.tree));
      written : Told T.tells (AreWritten (T.files l.tree) front);
    }
