use Rattle.std.proofs.lemmas.Result.{err_from_is_err_and}
use Rattle.local_children.specs.Hearing.{stand_of}
use Rattle.local_children.proofs.Speaking.{speaks_none, speaks_all, speaks_some}
use Rattle.local_children.proofs.serving.answer_piece.Goals as goal

pub returns-in_err-heard-clause-speaks : goal.returns-in_err-heard-clause-speaks
returns-in_err-heard-clause-speaks g c =
    let p = err_from_is_err_and c.from_residual.result c.from_residual.ensures.1 in
    speaks_none g.W.Sink (stand_of c.args.conversation) c.args.bytes.now c.args.output.now c.args.output.now p.0 c.from_residual.result p.1 p.2

pub returns-in-Ok-clause-speaks : goal.returns-in-Ok-clause-speaks
returns-in-Ok-clause-speaks g c =
    speaks_all g.W.Sink (stand_of c.args.conversation) c.args.bytes.now c.args.output.now c.send.new.output
    c.in_ok-heard.heard.said.items c.deref.result.now c.in_ok-heard.heard.stands c.deref.ensures.value c.in_ok-heard.ensures c.in-Ok.ensures.sends

pub returns-in-Err-clause-speaks : goal.returns-in-Err-clause-speaks
returns-in-Err-clause-speaks g c =
    speaks_some g.W.Sink (stand_of c.args.conversation) c.args.bytes.now c.args.output.now c.send.new.output
    c.in_ok-heard.heard.said.items c.deref.result.now c.in_ok-heard.heard.stands c.deref.ensures.value c.in_ok-heard.ensures c.in-Err.fault c.in-Err.ensures.sends
