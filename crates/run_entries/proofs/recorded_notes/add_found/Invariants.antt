use Rattle.std.proofs.Common.{◌≡◌, ◌++◌, drop, map}
use Rattle.run_entries.specs.Notes.{notes_found, notes_on}
use Rattle.run_entries.proofs.NoteLemmas.{note_on}
use Rattle.run_entries.proofs.recorded_notes.add_found.Given as goal

-- the notes so far, and those to come
abbrev pub invariant-loop-kind : goal.invariant-loop-kind
invariant-loop-kind l =
    l.notes ++ notes_found l.found (map (note_on l.processor) (drop l.kind-index l.kind-items)) ≡ l.fn.notes ++ notes_on l.found l.processor
