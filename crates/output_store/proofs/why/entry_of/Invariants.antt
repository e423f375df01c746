use Rattle.std.proofs.Common.{◌≡◌, drop}
use Rattle.std.specs.List.{find}
use Rattle.output_store.specs.Origins.{has_file, entry_of}
use Rattle.output_store.proofs.why.entry_of.Given as goal

-- the first entry from here on is the first of all
abbrev pub invariant-loop-entry : goal.invariant-loop-entry
invariant-loop-entry l = find (has_file l.path) (drop l.entry-index l.entries) ≡ entry_of l.path l.entries
