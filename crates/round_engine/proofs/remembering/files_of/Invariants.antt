use Rattle.std.proofs.Common.{◌≡◌, ◌++◌, drop, map}
use Rattle.run_entries.specs.Outputs.{file_of}
use Rattle.round_engine.proofs.remembering.files_of.Given as goal

-- the files so far, and those to come
abbrev pub invariant-loop-creation : goal.invariant-loop-creation
invariant-loop-creation l = l.files ++ map file_of (drop l.creation-index l.made) ≡ map file_of l.made
