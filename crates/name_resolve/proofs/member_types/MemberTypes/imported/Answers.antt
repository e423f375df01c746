use Rattle.std.proofs.Common.{◌∷◌, sym, subst}
use Rattle.name_resolve.specs.Meaning.{imported}
use Rattle.name_resolve.specs.Parts.{lent}
use Rattle.name_resolve.specs.Placed.{ArePlaced}
use Rattle.name_resolve.proofs.PlacedLemmas.{imported-placed}
use Rattle.name_resolve.proofs.member_types.MemberTypes.imported.Goals as goal

pub returns-clause-placed : goal.returns-clause-placed
unfolding imported
returns-clause-placed c =
    let table = c.args.self.now.table.now in
    subst (ArePlaced table) (sym c.in_ok-finds.ensures) (imported-placed table c.requires c.args.part (c.in-Some.first.now.now ∷ lent c.in-Some.others.now))
