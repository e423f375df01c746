use Rattle.std.proofs.Common.{suc, ◌≤◌, [], refl, ◌∙◌, arith}
use Rattle.decl_elements.specs.Shown.{node_of}
use Rattle.decl_elements.specs.Walk.{place_of, steps_below}
use Rattle.decl_elements.proofs.WalkSteps.{fewer_at, few_at_child, no_child, one_child, one_more, all_children}
use Rattle.decl_elements.proofs.walking.+walking.Goals as goal

pub visit_child-returns-in_default-clause-value :
    goal.visit_child-returns-in_default-clause-value
visit_child-returns-in_default-clause-value g t c =
    no_child g.V.Visitor.visits c.args.visitor.now (place_of c.args.path.now.items (node_of c.args.place)) c.args.at c.in_default.ensures

pub visit_child-visit_all-requires : goal.visit_child-visit_all-requires
visit_child-visit_all-requires g t c κs within =
    let fewer : suc (steps_below (node_of c.in-Some.child)) ≤ steps_below (node_of c.args.place) = fewer_at (node_of c.args.place) (node_of c.in-Some.child) c.args.at c.in-Some.ensures in
    (omega (arith, c.decreases), (within, few_at_child (node_of c.args.place) (node_of c.in-Some.child) c.args.at c.in-Some.ensures c.requires.few))

pub visit_child-returns-clause-value : goal.visit_child-returns-clause-value
visit_child-returns-clause-value g t c =
    one_child g.V.Visitor.visits c.args.visitor.now c.visit_all.new.visitor (place_of c.args.path.now.items (node_of c.args.place)) c.args.at (node_of c.in-Some.child)
    c.push.new.self.items c.in-Some.ensures c.in_ok-push.ensures.items c.in_ok-visit_all.ensures.value

pub visit_children-children-at-end-requires : goal.visit_children-children-at-end-requires
visit_children-children-at-end-requires g t c = c.requires.few [] (node_of c.args.place) refl

pub visit_children-returns-clause-value : goal.visit_children-returns-clause-value
visit_children-returns-clause-value g t c =
    all_children g.V.Visitor.visits c.args.visitor.now c.loop-at.visitor (place_of c.args.path.now.items (node_of c.args.place)) c.loop-at.at
    (omega (arith, c.children-at-end.ensures, c.loop-at-test.false)) c.loop-at.invariant.0

pub visit_children-loop-at-preserved : goal.visit_children-loop-at-preserved
visit_children-loop-at-preserved g t c = (
  one_more g.V.Visitor.visits c.args.visitor.now c.loop-at.visitor c.visit_child.new.visitor (place_of c.args.path.now.items (node_of c.args.place)) c.loop-at.path.items c.loop-at.at
      c.loop-at.invariant.1 c.loop-at.invariant.0 c.in_ok-visit_child.ensures.value,
  c.in_ok-visit_child.ensures.path ∙ c.loop-at.invariant.1,
)
