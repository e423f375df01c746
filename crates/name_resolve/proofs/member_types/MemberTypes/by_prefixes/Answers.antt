use Rattle.std.proofs.Common.{sym, subst}
use Rattle.name_resolve.specs.Placed.{ArePlaced}
use Rattle.name_resolve.specs.Shown.{finds_of}
use Rattle.name_resolve.proofs.PlacedLemmas.{tops-placed}
use Rattle.name_resolve.proofs.member_types.MemberTypes.by_prefixes.Goals as goal

pub along-requires : goal.along-requires
along-requires c =
    let table = c.args.self.now.table.now in
    record { placed = subst (ArePlaced table) (sym c.in_ok-here.ensures) (tops-placed table c.requires.right.is_table c.args.part _); right = c.requires.right }

pub along-requires-then-not-is_nothing-2 : goal.along-requires-then-not-is_nothing-2
along-requires-then-not-is_nothing-2 c =
    let table = c.args.self.now.table.now in
    record { placed = subst (ArePlaced table) (sym c.in_ok-here-2.ensures) (tops-placed table c.requires.right.is_table c.args.part _); right = c.requires.right }
