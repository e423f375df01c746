use Rattle.std.proofs.Common.{◌≡◌, take}
use Rattle.output_store.specs.Output.{named_in}
use Rattle.output_store.proofs.named.named_in.Given as goal

-- the files of the entries so far
abbrev pub invariant-loop-entry : goal.invariant-loop-entry
invariant-loop-entry l = l.named.items ≡ named_in (take l.entry-index l.entries)
