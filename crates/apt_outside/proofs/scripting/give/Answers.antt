use Rattle.std.proofs.Common.{◌≡◌, ◌+◌, ◌-◌, length, take, drop, ap, ◌∙◌, arith}
use Rattle.std.proofs.lemmas.List.{length-take}
use Rattle.apt_outside.proofs.Window.{window}
use Rattle.apt_outside.proofs.scripting.give.Goals as goal

pub returns-clause-given : goal.returns-clause-given
returns-clause-given c =
    let copied : length c.copy_from_slice.new.self ≡ c.min-count.result = omega (arith, length-take c.min-count.result c.args.room.now) in
    window c.args.started.now.taken c.min-count.result (c.args.started.now.taken + c.min-count.result - c.args.started.now.taken) c.args.started.now.said.items c.args.room.now c.copy_from_slice.new.self (omega arith) copied
    (c.copy_from_slice.ensures.after ∙ ap (λ xs. take (c.args.started.now.taken + c.min-count.result - c.args.started.now.taken) (drop c.args.started.now.taken xs)) c.deref.ensures.value)
