use Rattle.std.proofs.Common.{◌≡◌, ◌<◌, length, vec_len, rules, subst, sym}
use Rattle.type_numbers.proofs.HeldLaws.{within}
use Rattle.type_numbers.proofs.types.Types.layers.Goals as goal

pub index-requires : goal.index-requires
index-requires c =
    let count : vec_len c.self.inside.entries ≡ length c.self.inside.entries.items = search rules in
    subst (λ n. c.args.number < n) (sym count) (within c.self.inside.entries.items c.args.self.now c.args.number c.self.view_is c.requires)
