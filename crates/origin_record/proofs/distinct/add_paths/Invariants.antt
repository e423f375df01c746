use Rattle.std.proofs.Common.{◌≡◌, ◌++◌, take}
use Rattle.origin_record.specs.Conditions.{lent, paths_of}
use Rattle.origin_record.proofs.distinct.add_paths.Given as goal

-- the paths so far are added
abbrev pub invariant-loop-file : goal.invariant-loop-file
invariant-loop-file l = lent l.paths.items ≡ lent l.initial.paths.items ++ paths_of (take l.file-index l.files)
