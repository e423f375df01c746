use Rattle.std.proofs.Common.{◌≡◌, ◌++◌, map, take}
use Rattle.output_store.specs.Output.{named_file}
use Rattle.output_store.proofs.named.add_named.Given as goal

-- the files so far are added
abbrev pub invariant-loop-file : goal.invariant-loop-file
invariant-loop-file l = l.named.items ≡ l.initial.named.items ++ map named_file (take l.file-index l.files)
