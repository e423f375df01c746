use Rattle.std.proofs.Common.{◌≡◌, ◌<◌, ℕ, length, get_or, vec_len, rules, subst, sym}
use Rattle.type_numbers.specs.Numbers.{IsKnown}
use Rattle.type_numbers.proofs.LayerMaps.{all-at}
use Rattle.type_numbers.proofs.HeldLaws.{within}
use Rattle.type_numbers.proofs.types.Types.with_sizes.Goals as goal

pub index-entry-requires : goal.index-entry-requires
index-entry-requires c =
    let count : vec_len c.self.inside.entries ≡ length c.self.inside.entries.items = search rules in
    let part = get_or c.args.parts.now c.loop-part.part-index 0 in
    let known = all-at (IsKnown c.args.self.now) c.args.parts.now c.loop-part.part-index 0 c.requires c.loop-part-test.true in
    subst (λ (n : ℕ). part < n) (sym count) (within c.self.inside.entries.items c.args.self.now part c.self.view_is known)
