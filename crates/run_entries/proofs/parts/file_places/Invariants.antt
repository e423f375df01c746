use Rattle.run_entries.specs.Outputs.{file_origin}
use Rattle.run_entries.proofs.PlaceLemmas.{Finds}
use Rattle.run_entries.proofs.parts.file_places.Given as goal

-- the places so far, and those to come
abbrev pub invariant-loop-at : goal.invariant-loop-at
invariant-loop-at l = Finds file_origin l.files l.places l.at
