use Rattle.std.proofs.Common.{◌≡◌, ◌++◌, take}
use Rattle.origin_record.specs.Conditions.{stores_of}
use Rattle.output_store.proofs.named.add_stores.Given as goal

-- the numbers so far are added
abbrev pub invariant-loop-file : goal.invariant-loop-file
invariant-loop-file l = l.numbers.items ≡ l.initial.numbers.items ++ stores_of (take l.file-index l.files)
