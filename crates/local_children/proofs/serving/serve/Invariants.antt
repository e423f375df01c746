use Rattle.std.proofs.Common.{◌≤◌}
use Rattle.local_children.specs.Hearing.{stand_of}
use Rattle.local_children.specs.Serving.{Goes}
use Rattle.local_children.proofs.serving.serve.Given as goal

-- what was read is answered, and no count has fallen
abbrev pub invariant-loop-conversation : goal.invariant-loop-conversation
invariant-loop-conversation g l = record {
  goes : Goes g.R.Source g.W.Sink l.fn.local l.fn.input l.input l.fn.output l.output (stand_of l.conversation);
  source_later : g.R.Source.faults l.fn.input ≤ g.R.Source.faults l.input;
  sink_later : g.W.Sink.faults l.fn.output ≤ g.W.Sink.faults l.output;
}

abbrev pub decreases-loop-conversation : goal.decreases-loop-conversation
decreases-loop-conversation g l = g.R.Source.supply l.input
