use Rattle.std.proofs.Common.{sym, subst}
use Rattle.name_resolve.specs.Placed.{ArePlaced}
use Rattle.name_resolve.proofs.PlacedLemmas.{tops-placed}
use Rattle.name_resolve.proofs.member_types.MemberTypes.declared_by_prefixes.Goals as goal

pub along_declared-requires : goal.along_declared-requires
along_declared-requires c =
    let table = c.args.self.now.table.now in
    subst (ArePlaced table) (sym c.in_ok-here.ensures) (tops-placed table c.requires c.args.part c.args.first.now)

pub along_declared-requires-then-not-is_nothing-2 : goal.along_declared-requires-then-not-is_nothing-2
along_declared-requires-then-not-is_nothing-2 c =
    let table = c.args.self.now.table.now in
    subst (ArePlaced table) (sym c.in_ok-here-2.ensures) (tops-placed table c.requires c.args.part _)
