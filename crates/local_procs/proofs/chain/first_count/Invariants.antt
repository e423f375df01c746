use Rattle.std.proofs.Common.{◌≡◌, drop, filter_map}
use Rattle.local_procs.specs.Chain.{count_of}
use Rattle.local_procs.specs.Contents.{first_in}
use Rattle.local_procs.proofs.chain.first_count.Given as goal

-- the rest decides
abbrev pub invariant-loop-named : goal.invariant-loop-named
invariant-loop-named l = first_in (filter_map count_of (drop l.named-index l.values)) ≡ first_in (filter_map count_of l.values)
