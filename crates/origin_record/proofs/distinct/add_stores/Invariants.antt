use Rattle.std.proofs.Common.{◌≡◌, ◌++◌, take}
use Rattle.origin_record.specs.Conditions.{stores_of}
use Rattle.origin_record.proofs.distinct.add_stores.Given as goal

-- the numbers so far are added
abbrev pub invariant-loop-file : goal.invariant-loop-file
invariant-loop-file l = l.stores.items ≡ l.initial.stores.items ++ stores_of (take l.file-index l.files)
