use Rattle.std.proofs.Common.{rules, ◌≤◌, length, take, refl, subst, arith, Ok}
use Rattle.std.proofs.lemmas.Result.{err_from_is_err_and}
use Rattle.frame_reader.specs.Stages.{wanted_in}
use Rattle.local_children.specs.Streams.{end_by}
use Rattle.local_children.specs.Hearing.{stand_of}
use Rattle.local_children.specs.Serving.{Speaks}
use Rattle.local_children.proofs.Served.{goes_begun, serves_ended, serves_unread, goes_further, serves_over, serves_unsent, ended_source, ended_sink}
use Rattle.local_children.proofs.serving.serve.Goals as goal

pub loop-conversation-init : goal.loop-conversation-init
loop-conversation-init g c = record {
  goes = goes_begun g.R.Source g.W.Sink c.args.local c.args.input.now c.args.output.now (stand_of c.new-conversation.result) c.new-conversation.ensures;
  source_later = omega arith;
  sink_later = omega arith;
}

pub returns-in_err-got-clause-serves : goal.returns-in_err-got-clause-serves
returns-in_err-got-clause-serves g c =
    let p = err_from_is_err_and c.from_residual.result c.from_residual.ensures.1 in
    rw (p.1, p.2) (serves_unread g.R.Source g.W.Sink c.args.local c.args.input.now c.args.output.now c.loop-conversation.input c.loop-conversation.output (stand_of c.loop-conversation.conversation)
    c.loop-conversation.invariant.goes c.read_piece.new.input c.read_piece.new.room c.in_err-got.field-0.0 c.in_err-got.ensures.reads)

pub returns-then-got-eq0-clause-source : goal.returns-then-got-eq0-clause-source
returns-then-got-eq0-clause-source g c =
    ended_source _ _ (omega (arith, c.loop-conversation.invariant.source_later, c.in_ok-got.ensures.source.later)) (end_by (Ok (stand_of c.loop-conversation.conversation).1)) c.ended.result c.ended.ensures

pub returns-then-got-eq0-clause-sink : goal.returns-then-got-eq0-clause-sink
returns-then-got-eq0-clause-sink g c =
    ended_sink _ _ c.loop-conversation.invariant.sink_later (end_by (Ok (stand_of c.loop-conversation.conversation).1)) c.ended.result c.ended.ensures

pub returns-then-got-eq0-clause-serves : goal.returns-then-got-eq0-clause-serves
returns-then-got-eq0-clause-serves g c =
    serves_ended g.R.Source g.W.Sink c.args.local c.args.input.now c.args.output.now c.loop-conversation.input c.loop-conversation.output (stand_of c.loop-conversation.conversation)
    c.loop-conversation.invariant.goes c.read_piece.new.input c.read_piece.new.room c.in_ok-got.got c.in_ok-got.ensures.reads c.if-got-eq0.true c.ended.result c.ended.ensures

pub returns-in_err-stands-clause-serves : goal.returns-in_err-stands-clause-serves
returns-in_err-stands-clause-serves g c =
    let short : length c.read_piece.new.room ≤ wanted_in c.loop-conversation.conversation.reader = search rules in
    let p = err_from_is_err_and c.from_residual-in_err-stands.result c.from_residual-in_err-stands.ensures.1 in
    rw (p.1, p.2) (serves_unsent g.R.Source g.W.Sink c.args.local c.args.input.now c.args.output.now c.loop-conversation.input c.loop-conversation.output (stand_of c.loop-conversation.conversation)
    c.loop-conversation.invariant.goes c.read_piece.new.input c.read_piece.new.room (take c.in_ok-got.got c.read_piece.new.room) c.in_ok-got.got c.in_ok-got.ensures.reads refl short c.answer_piece.new.output c.in_err-stands.field-0.0 c.in_err-stands.ensures.speaks)

pub loop-conversation-preserved : goal.loop-conversation-preserved
loop-conversation-preserved g c =
    let short : length c.read_piece.new.room ≤ wanted_in c.loop-conversation.conversation.reader = search rules in
    let speaks = subst (λ s. Speaks g.W.Sink (stand_of c.loop-conversation.conversation) (take c.in_ok-got.got c.read_piece.new.room) c.loop-conversation.output c.answer_piece.new.output (Ok s)) c.in-Open.is c.in_ok-stands.ensures.speaks in
    record {
      goes = goes_further g.R.Source g.W.Sink c.args.local c.args.input.now c.args.output.now c.loop-conversation.input c.loop-conversation.output (stand_of c.loop-conversation.conversation)
          c.loop-conversation.invariant.goes c.read_piece.new.input c.read_piece.new.room (take c.in_ok-got.got c.read_piece.new.room) c.in_ok-got.got c.in_ok-got.ensures.reads refl short c.answer_piece.new.output c.in-Open.next speaks;
      source_later = omega (arith, c.loop-conversation.invariant.source_later, c.in_ok-got.ensures.source.later);
      sink_later = omega (arith, c.loop-conversation.invariant.sink_later, c.in_ok-stands.ensures.sink.later);
    }

pub returns-in-Over-clause-serves : goal.returns-in-Over-clause-serves
returns-in-Over-clause-serves g c =
    let short : length c.read_piece.new.room ≤ wanted_in c.loop-conversation.conversation.reader = search rules in
    let speaks = subst (λ s. Speaks g.W.Sink (stand_of c.loop-conversation.conversation) (take c.in_ok-got.got c.read_piece.new.room) c.loop-conversation.output c.answer_piece.new.output (Ok s)) c.in-Over.is c.in_ok-stands.ensures.speaks in
    serves_over g.R.Source g.W.Sink c.args.local c.args.input.now c.args.output.now c.loop-conversation.input c.loop-conversation.output (stand_of c.loop-conversation.conversation)
    c.loop-conversation.invariant.goes c.read_piece.new.input c.read_piece.new.room (take c.in_ok-got.got c.read_piece.new.room) c.in_ok-got.got c.in_ok-got.ensures.reads refl short c.answer_piece.new.output c.in-Over.breach speaks
