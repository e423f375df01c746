use Rattle.reach_map.proofs.ReachLemmas.{begins_by, follows_by, smaller_by, nothing_left, ends_by}
use Rattle.reach_map.proofs.reaching.reach_of_all.Goals as goal

pub loop-name-init : goal.loop-name-init
loop-name-init c =
    begins_by c.args.table.now c.args.units.now c.visit_all.new.reached c.new-reached.result c.visit_all.new.left.items c.new-left.result.items c.new-reached.ensures c.new-left.ensures.items
    c.in_ok-visit_all.ensures.reached c.in_ok-visit_all.ensures.left

pub loop-name-preserved : goal.loop-name-preserved
loop-name-preserved c =
    follows_by c.args.table.now c.args.units.now c.loop-name.reached c.follow.new.reached c.loop-name.left.items c.pop.new.self.items c.follow.new.left.items c.in-Some.name c.in-Some.ensures.items
    c.in_ok-follow.ensures.reached c.in_ok-follow.ensures.left c.loop-name.invariant

pub loop-name-smaller : goal.loop-name-smaller
loop-name-smaller c =
    smaller_by c.args.table.now c.loop-name.reached c.follow.new.reached c.loop-name.left.items c.pop.new.self.items c.follow.new.left.items c.in-Some.name c.in-Some.ensures.items
    c.in_ok-follow.ensures.reached c.in_ok-follow.ensures.left

pub returns : goal.returns
returns c =
    let held = c.loop-name.left.items in
    let rest = c.pop.new.self.items in
    let none = nothing_left held rest _ (rw c.in_default.is at c.pop.ensures.items) c.pop.ensures.rest (rw c.in_default.is at c.pop.ensures.cases).0 in
    ends_by c.args.table.now c.args.units.now c.loop-name.reached held none c.loop-name.invariant
