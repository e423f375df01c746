use Rattle.decl_members.proofs.ApartLists.{push-mapped, push-behind}
use Rattle.decl_members.proofs.made_members.apart_members.Goals as goal

pub loop-each-preserved : goal.loop-each-preserved
loop-each-preserved c = (
  push-mapped (λ x. x.member) c.loop-each.yielded c.in-Some.each _ _ c.loop-each.invariant.0 c.in_ok-push.ensures.ok,
  push-behind (λ x. x.lines) c.args.front c.loop-each.yielded c.in-Some.each _ _ c.loop-each.invariant.1 c.in_ok-push-2.ensures.ok,
)
