use Rattle.std.proofs.Common.{sym, ap, ◌∙◌}
use Rattle.frame_reader.specs.Stages.{found_in}
use Rattle.frame_stream.proofs.StreamsLemmas.{none_begun}
use Rattle.local_children.specs.Streams.{has_begun}
use Rattle.local_children.proofs.conversation.Conversation.new.Goals as goal

pub invariant_of-result : goal.invariant_of-result
invariant_of-result c = record { begins = ap found_in c.new-2.ensures ∙ none_begun; counts = sym (ap has_begun c.new.ensures.stands) }
