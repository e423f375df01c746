use Rattle.std.proofs.Common.{length, arith}
use Rattle.decl_grammar.specs.Form.{between}
use Rattle.decl_crossings.specs.Crossings.{RestCrosses}
use Rattle.decl_crossings.specs.Steps.{CrossesAt}
use Rattle.decl_crossings.proofs.StepAnswers.{type-smaller, on-kept, type-kept, told-not}
use Rattle.decl_crossings.proofs.walk.+crosses.Goals as goal
use Rattle.decl_crossings.proofs.walk.+crosses.Goals.{in-On, in-Type+in_ok-crosses-in-Type+else-branch}

pub crosses-requires : goal.crosses-requires
crosses-requires g c =
    let d = type-smaller c.walk.left (CrossesAt c.walk.at c.walk.left c.walk.rest.now) c.walk.rest.now c.in_ok-next.next.kind c.in_ok-next.next.within.now c.in_ok-next.next.rest.now c.in_ok-next.ensures c.in-Type.is in
    (omega (arith, c.decreases, d.0, c.walk.invariant.1), omega (arith, d.0, c.walk.invariant.1, c.requires))

pub walk-preserved : goal.walk-preserved
walk-preserved g c = elim c.match-next.branch [
  | in-On w ↦
      on-kept (CrossesAt c.args.spot c.args.many c.args.symbols.now) c.walk.left w.in-On.more c.match-next.left (length c.args.symbols.now) c.walk.at c.match-next.at w.in-On.spot
      c.walk.rest.now c.in_ok-next.next.kind c.in_ok-next.next.within.now c.in_ok-next.next.rest.now c.walk.invariant.0 c.walk.invariant.1 c.in_ok-next.ensures w.in-On.is w.left-is w.at-is
  | in-Type+in_ok-crosses-in-Type+else-branch w ↦
      type-kept (CrossesAt c.args.spot c.args.many c.args.symbols.now) c.walk.left c.match-next.left (length c.args.symbols.now) c.walk.at c.match-next.at
      c.walk.rest.now c.in_ok-next.next.kind c.in_ok-next.next.within.now c.in_ok-next.next.rest.now c.walk.invariant.0 c.walk.invariant.1 c.in_ok-next.ensures w.in-Type.is
      (told-not (RestCrosses c.walk.left between c.in_ok-next.next.within.now) w.in_ok-crosses-in-Type.field-0 w.if-branch.false w.in_ok-crosses-in-Type.ensures) w.left-is w.at-is
]
