use Rattle.std.proofs.Common.{◌≡◌, drop, filter_map}
use Rattle.local_procs.specs.Chain.{count_in}
use Rattle.local_procs.specs.Contents.{first_in, annotations_in}
use Rattle.local_procs.proofs.chain.links_in.Given as goal

-- the rest decides
abbrev pub invariant-loop-annotation : goal.invariant-loop-annotation
invariant-loop-annotation l = first_in (filter_map count_in (drop l.annotation-index (annotations_in l.reply))) ≡ first_in (filter_map count_in (annotations_in l.reply))
