use Rattle.std.proofs.Common.{subst}
use Rattle.local_children.specs.Hearing.{stand_of}
use Rattle.local_children.proofs.Pieces.{HearsOn, hears_next, hears_over, hears_end}
use Rattle.local_children.proofs.conversation.Conversation.hear.Goals as goal

pub loop-rest-preserved : goal.loop-rest-preserved
loop-rest-preserved c =
    hears_next (stand_of c.args.self) c.args.bytes.now c.loop-rest.said.items c.hear_front.new.said.items c.in-Open.open c.in_ok-taken-in-Open.next c.loop-rest.rest.now c.in_ok-taken-in-Open.taken
    (subst (λ s. HearsOn (stand_of c.args.self) c.args.bytes.now c.loop-rest.said.items s c.loop-rest.rest.now) c.in-Open.is c.loop-rest.invariant)
    c.in_ok-taken-in-Open.ensures.within c.in_ok-taken-in-Open.ensures.hears

pub returns-in-Over : goal.returns-in-Over
returns-in-Over c =
    hears_over (stand_of c.args.self) c.args.bytes.now c.loop-rest.said.items c.in-Over.breach c.loop-rest.rest.now
    (subst (λ s. HearsOn (stand_of c.args.self) c.args.bytes.now c.loop-rest.said.items s c.loop-rest.rest.now) c.in-Over.is c.loop-rest.invariant)

pub returns : goal.returns
returns c = hears_end (stand_of c.args.self) c.args.bytes.now c.loop-rest.said.items c.loop-rest.stands c.loop-rest.rest.now c.loop-rest.invariant c.loop-rest-test.ensures
