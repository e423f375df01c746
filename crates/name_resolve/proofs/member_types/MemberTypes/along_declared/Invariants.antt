use Rattle.std.proofs.Common.{◌≡◌, drop}
use Rattle.name_resolve.specs.Finds.{declared_types}
use Rattle.name_resolve.specs.Meaning.{along}
use Rattle.name_resolve.specs.Parts.{lent}
use Rattle.name_resolve.specs.Placed.{ArePlaced}
use Rattle.name_resolve.specs.Shown.{finds_of}
use Rattle.name_resolve.proofs.member_types.MemberTypes.along_declared.Given as goal

abbrev pub invariant-loop-name : goal.invariant-loop-name
invariant-loop-name l = record {
  placed : ArePlaced l.self.table.now (finds_of l.finds);
  along : along declared_types (finds_of l.finds) (lent (drop l.name-index l.names)) ≡ along declared_types (finds_of l.initial.finds) (lent l.names);
}
