use Rattle.std.proofs.Common.{◌≡◌, drop}
use Rattle.std.specs.List.{list_any}
use Rattle.local_procs.specs.Contents.{is_annotation_of, annotations_in}
use Rattle.local_procs.proofs.contents.carries.Given as goal

-- the rest decides
abbrev pub invariant-loop-annotation : goal.invariant-loop-annotation
invariant-loop-annotation l =
    list_any (is_annotation_of l.name) (drop l.annotation-index (annotations_in l.reply)) ≡ list_any (is_annotation_of l.name) (annotations_in l.reply)
