use Rattle.std.proofs.Common.{◌≡◌, sym, subst}
use Rattle.memory_children.specs.Kept.{Kept, Takes, HearsMore, shown_call, shown_frames}
use Rattle.memory_children.proofs.Keeping.{takes_more}
use Rattle.memory_children.proofs.local_child.LocalChild.send.Goals as goal

pub returns-in-Ok-clause-ok : goal.returns-in-Ok-clause-ok
returns-in-Ok-clause-ok c =
    let inside = c.self.inside in
    let heard = c.in_ok-said.field-0 in
    let more : HearsMore inside.local inside.bytes.items c.args.frame.now heard = subst (λ bytes. HearsMore inside.local bytes c.args.frame.now heard) c.deref.ensures.value c.in_ok-said.ensures in
    let new : Kept = record { name = (shown_call inside.call).0; command = (shown_call inside.call).1; sent = shown_frames c.put-stored.new.sent.items; taken = inside.taken } in
    subst (λ (old : Kept). Takes c.args.frame.now old new) c.self.view_is
    (takes_more inside.local (shown_call inside.call).1 (shown_frames inside.sent.items) inside.bytes.items inside.said.items inside.taken inside.stands c.self.invariant c.args.frame.now heard more
    (shown_call inside.call).0 (shown_frames c.put-stored.new.sent.items) c.in-Ok.ensures.sent)
