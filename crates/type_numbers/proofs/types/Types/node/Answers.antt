use Rattle.std.proofs.Common.{◌≡◌, ◌<◌, length, vec_len, rules, subst, sym}
use Rattle.type_numbers.proofs.HeldLaws.{within, node-exact, node-below}
use Rattle.type_numbers.proofs.types.Types.node.Goals as goal

pub index-requires : goal.index-requires
index-requires c =
    let count : vec_len c.self.inside.entries ≡ length c.self.inside.entries.items = search rules in
    subst (λ n. c.args.number < n) (sym count) (within c.self.inside.entries.items c.args.self.now c.args.number c.self.view_is c.requires)

pub returns-clause-exact : goal.returns-clause-exact
returns-clause-exact c =
    node-exact c.self.inside.entries.items c.args.self.now c.args.number c.index.result.now c.self.view_is c.self.invariant.ordered c.requires c.index.ensures

pub returns-clause-below : goal.returns-clause-below
returns-clause-below c =
    node-below c.self.inside.entries.items c.args.self.now c.args.number c.index.result.now c.self.view_is c.self.invariant.ordered c.requires c.index.ensures
