use Rattle.std.proofs.Common.{◌≡◌, drop}
use Rattle.std.specs.List.{list_any}
use Rattle.std.specs.Str.{bytes_eq}
use Rattle.output_store.specs.Origins.{has_file}
use Rattle.output_store.proofs.why.has_file.Given as goal

-- whether a file from here on has the path is whether one has it
abbrev pub invariant-loop-file : goal.invariant-loop-file
invariant-loop-file l = list_any (λ file. bytes_eq file.path l.path) (drop l.file-index l.file-items) ≡ has_file l.path l.entry
