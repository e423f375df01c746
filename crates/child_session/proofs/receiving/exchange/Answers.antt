use Rattle.child_session.proofs.Exchanging.{exchanges, ok_map}
use Rattle.child_session.proofs.receiving.exchange.Goals as goal

pub returns-clause-answer : goal.returns-clause-answer
returns-clause-answer g c = λ told.
    ok_map c.read_frame.result _ _
    (λ found takes. exchanges c.args.child _ _ _ c.args.frame.now found (c.send.ensures.attends told).change (c.in_ok-send.ensures.sent told) (c.read_frame.ensures.attends told).change takes)
    (c.read_frame.ensures.taken told)
