use Rattle.std.proofs.Common.{◌≡◌, take}
use Rattle.origin_record.specs.Conditions.{stores_in}
use Rattle.output_store.proofs.named.stores_in.Given as goal

-- the numbers of the entries so far
abbrev pub invariant-loop-entry : goal.invariant-loop-entry
invariant-loop-entry l = l.numbers.items ≡ stores_in (take l.entry-index l.entries)
