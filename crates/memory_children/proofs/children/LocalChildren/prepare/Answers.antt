use Rattle.std.proofs.Common.{length, ap}
use Rattle.memory_children.proofs.Living.{lives_along}
use Rattle.memory_children.proofs.children.LocalChildren.prepare.Goals as goal

pub invariant_of-self : goal.invariant_of-self
invariant_of-self c = record {
  lives = lives_along c.args.self.now.live.items _ c.args.self.now.started.items _ c.make_room.ensures.live (ap length c.make_room.ensures.started) c.args.self.now.lives;
}
