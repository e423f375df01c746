use Rattle.apt_filer.specs.Origins.{message_origin}
use Rattle.run_entries.proofs.PlaceLemmas.{Finds}
use Rattle.run_entries.proofs.parts.message_places.Given as goal

-- the places so far, and those to come
abbrev pub invariant-loop-at : goal.invariant-loop-at
invariant-loop-at l = Finds message_origin l.messages l.places l.at
