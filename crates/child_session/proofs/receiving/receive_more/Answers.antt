use Rattle.std.proofs.Common.{ℕ, Err, take, sym, ap, subst}
use Rattle.frame_breaches.specs.declared.breach.Breach.TheVariants.{Ended}
use Rattle.child_session.specs.Talk.{FindsBehind}
use Rattle.child_session.proofs.Taking.{goes_behind, ends_behind}
use Rattle.child_session.proofs.receiving.receive_more.Goals as goal

pub returns-then-got-eq0-clause-taken : goal.returns-then-got-eq0-clause-taken
returns-then-got-eq0-clause-taken g c = λ told.
    let received = c.in_ok-got.ensures.read told in
    subst (λ (n : ℕ). FindsBehind c.args.child c.args.reader.now (g.C.Children.state c.args.children.now) (g.C.Children.state c.receive.new.self) (Err (Ended n))) (sym c.waiting-got.ensures)
    (ends_behind c.args.child _ _ c.args.reader.now c.requires.begun received.sent (received.ended (ap (λ (n : ℕ). take n c.receive.new.room) c.if-got-eq0.true)))

pub returns-in-Ok-clause-taken : goal.returns-in-Ok-clause-taken
returns-in-Ok-clause-taken g c = λ told.
    let received = c.in_ok-got.ensures.read told in
    goes_behind c.args.child _ _ c.args.reader.now _ received.sent received.taken c.in-Ok.progress c.feed_all.new.reader c.in-Ok.ensures
