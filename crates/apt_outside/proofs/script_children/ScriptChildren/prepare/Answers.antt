use Rattle.apt_outside.specs.Scripted.{IsJoined}
use Rattle.apt_outside.proofs.ChildLemmas.{takes_along, lives_along}
use Rattle.apt_outside.proofs.Joined.{each_along}
use Rattle.apt_outside.proofs.script_children.ScriptChildren.prepare.Goals as goal

pub invariant_of-self : goal.invariant_of-self
invariant_of-self c = record {
  takes = takes_along c.args.self.now.scripts.items _ _ c.make_room.ensures.started c.args.self.now.takes;
  joins = each_along (IsJoined c.args.self.now.scripts.items) _ _ c.make_room.ensures.started c.args.self.now.joins;
  lives = lives_along c.args.self.now.live.items _ c.args.self.now.started.items _ c.make_room.ensures.live c.make_room.ensures.started c.args.self.now.lives;
}
