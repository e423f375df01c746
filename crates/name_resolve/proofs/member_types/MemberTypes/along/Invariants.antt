use Rattle.std.proofs.Common.{◌≡◌, drop}
use Rattle.name_resolve.specs.Meaning.{Members, along}
use Rattle.name_resolve.specs.Parts.{lent}
use Rattle.name_resolve.specs.Placed.{ArePlaced}
use Rattle.name_resolve.specs.Remembered.{Agrees}
use Rattle.name_resolve.specs.Shown.{finds_of}
use Rattle.name_resolve.proofs.member_types.MemberTypes.along.Given as goal

abbrev pub invariant-loop-name : goal.invariant-loop-name
invariant-loop-name l =
    ((members : Members) → Agrees l.self l.levels members → along members (finds_of l.finds) (lent (drop l.name-index l.names)) ≡ along members (finds_of l.initial.finds) (lent l.names))
    × ArePlaced l.self.table.now (finds_of l.finds)
