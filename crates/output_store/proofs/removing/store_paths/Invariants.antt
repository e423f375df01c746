use Rattle.std.proofs.Common.{◌≡◌, drop}
use Rattle.std.specs.FinMap as fin
use Rattle.apt_base.specs.Names.{with_names}
use Rattle.output_store.specs.Reading.{store_paths}
use Rattle.output_store.proofs.removing.store_paths.Given as goal

-- with the paths of the files from here on, it is all of them
abbrev pub invariant-loop-file : goal.invariant-loop-file
invariant-loop-file l = with_names l.paths (store_paths (drop l.file-index l.files)) ≡ with_names fin.empty (store_paths l.files)
