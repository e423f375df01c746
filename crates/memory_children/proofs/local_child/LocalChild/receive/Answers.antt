use Rattle.std.proofs.Common.{◌≡◌, ◌+◌, ◌-◌, ◌++◌, length, min, take, drop, refl, sym, subst, ap, ◌∙◌, arith, rules}
use Rattle.std.proofs.lemmas.List.{length-take}
use Rattle.memory_children.specs.Kept.{Kept, Gives, shown_call, shown_frames}
use Rattle.memory_children.proofs.Keeping.{gives_copied}
use Rattle.memory_children.proofs.local_child.LocalChild.receive.Goals as goal

pub returns : goal.returns
returns c =
    let inside = c.self.inside in
    let count = c.min-count.result in
    let copied : length c.copy_from_slice.new.self ≡ count = omega (arith, length-take count c.args.room.now) in
    let least : count ≡ min (length c.args.room.now) (length inside.said.items - inside.taken) = search rules in
    let window_is : inside.taken + count - inside.taken ≡ count = omega arith in
    let new : Kept = record { name = (shown_call inside.call).0; command = (shown_call inside.call).1; sent = shown_frames inside.sent.items; taken = inside.taken + count } in
    subst (λ (old : Kept). Gives (c.copy_from_slice.new.self ++ drop count c.args.room.now) count old new) c.self.view_is
    (gives_copied inside.local (shown_call inside.call).0 (shown_call inside.call).1 (shown_frames inside.sent.items) inside.bytes.items inside.said.items inside.taken inside.stands c.self.invariant
    c.args.room.now c.copy_from_slice.new.self count (inside.taken + count - inside.taken) (inside.taken + count) least c.requires.room window_is copied
    (c.copy_from_slice.ensures.after ∙ ap (λ xs. take (inside.taken + count - inside.taken) (drop inside.taken xs)) c.deref.ensures.value) refl)
