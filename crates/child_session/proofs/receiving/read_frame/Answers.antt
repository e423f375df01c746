use Rattle.std.proofs.Common.{refl, ap, ◌∙◌, arith}
use Rattle.std.proofs.lemmas.List.{length-take}
use Rattle.frame_reader.specs.Stages.{found_in}
use Rattle.frame_reader.proofs.Wanted.{wants_some}
use Rattle.frame_stream.proofs.StreamsLemmas.{none_begun}
use Rattle.child_session.proofs.Taking.{changes_self, attends_then, takes_nothing, more_then, found_then}
use Rattle.child_session.proofs.receiving.read_frame.Goals as goal

pub loop-reader-init : goal.loop-reader-init
loop-reader-init g c = record {
  later = omega arith;
  starts = refl;
  live = refl;
  begun = ap found_in c.new-reader.ensures ∙ none_begun;
  attends = λ told. record { same_says = refl; same_tried = refl; change = changes_self c.args.child _ };
  taken = λ told. takes_nothing c.args.child _ c.new-reader.result c.new-reader.ensures;
}

pub receive_more-requires-clause-room : goal.receive_more-requires-clause-room
receive_more-requires-clause-room g c = omega (arith, wants_some c.loop-reader.reader c.loop-reader.invariant.begun, c.wanted.ensures, length-take c.min-wanted.result c.loop-reader.room)

pub loop-reader-preserved : goal.loop-reader-preserved
loop-reader-preserved g c = record {
  later = omega (arith, c.loop-reader.invariant.later, c.receive_more.ensures.cause.later);
  starts = c.receive_more.ensures.starts ∙ c.loop-reader.invariant.starts;
  live = c.receive_more.ensures.live ∙ c.loop-reader.invariant.live;
  begun = (rw c.in-Begun.is at c.in_ok-receive_more.ensures.longer).0;
  attends = λ told. attends_then _ _ _ _ (c.loop-reader.invariant.attends told) (c.receive_more.ensures.attends told);
  taken = λ told. more_then _ _ _ _ _ _ (c.loop-reader.invariant.taken told) (rw c.in-Begun.is at (c.in_ok-receive_more.ensures.taken told));
}

pub returns-in-Over-clause-taken : goal.returns-in-Over-clause-taken
returns-in-Over-clause-taken g c = λ told. found_then _ _ _ _ _ _ (c.loop-reader.invariant.taken told) (rw c.in-Over.is at (c.in_ok-receive_more.ensures.taken told))
