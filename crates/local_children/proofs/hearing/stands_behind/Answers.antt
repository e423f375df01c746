use Rattle.std.proofs.Common.{IfOk, ap, subst, ◌∙◌}
use Rattle.frame_reader.specs.Stages.{found_in}
use Rattle.frame_stream.proofs.StreamsLemmas.{none_begun}
use Rattle.local_children.specs.Hearing.{HasBegun}
use Rattle.local_children.proofs.hearing.stands_behind.Goals as goal

pub invariant_of-result : goal.invariant_of-result
invariant_of-result c = record {
  begins = ap found_in c.requires.begins ∙ none_begun;
  counts = subst HasBegun c.in-Ok-Ok.field-0-is (subst (λ a. IfOk a HasBegun) c.in-Ok-Ok.is c.requires.counts);
}
