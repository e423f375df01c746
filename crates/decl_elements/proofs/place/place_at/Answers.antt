use Rattle.std.proofs.Common.{◌≡◌, ◌≤◌, length, Some, sym, arith, rules}
use Rattle.decl_elements.specs.Nodes.{down, root}
use Rattle.decl_elements.specs.Shown.{node_of}
use Rattle.decl_elements.proofs.Positions.{down_end}
use Rattle.decl_elements.proofs.FewChildren.{few_at}
use Rattle.decl_elements.proofs.place.place_at.Goals as goal

pub returns-clause-few : goal.returns-clause-few
returns-clause-few c =
    let past : length c.args.path.now ≤ c.loop-at.at-index = omega arith in
    few_at c.args.unit.now c.args.path.now (node_of c.loop-at.place) c.root-place.ensures.legal
    (down_end c.args.path.now c.loop-at.at-index (node_of c.loop-at.place) (down c.args.path.now (root c.args.unit.now)) past c.loop-at.invariant)
