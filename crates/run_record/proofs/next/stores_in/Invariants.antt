use Rattle.std.proofs.Common.{◌≡◌, drop}
use Rattle.run_record.specs.Next.{with_stores, stores_in}
use Rattle.run_record.proofs.next.stores_in.Given as goal

-- the numbers so far, with those to come
abbrev pub invariant-loop-file : goal.invariant-loop-file
invariant-loop-file l = with_stores l.stores (drop l.file-index l.files) ≡ stores_in l.files
