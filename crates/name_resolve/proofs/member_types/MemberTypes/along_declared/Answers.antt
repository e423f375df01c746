use Rattle.std.proofs.Common.{sym, subst, ◌∙◌}
use Rattle.name_resolve.specs.Finds.{declared_types}
use Rattle.name_resolve.specs.Placed.{ArePlaced}
use Rattle.name_resolve.specs.Shown.{finds_of}
use Rattle.name_resolve.proofs.DeclaredPlaced.{declared-placed}
use Rattle.name_resolve.proofs.LookSteps.{along_next}
use Rattle.name_resolve.proofs.member_types.MemberTypes.along_declared.Goals as goal

pub loop-name-preserved : goal.loop-name-preserved
loop-name-preserved c =
    let table = c.args.self.now.table.now in
    record {
      placed = subst (ArePlaced table) (sym c.in_ok-finds.ensures) (declared-placed table (finds_of c.loop-name.finds) c.loop-name.invariant.placed _);
      along = along_next declared_types c.args.names.now c.loop-name.name-index _ _ _ c.loop-name-test.true c.in_ok-finds.ensures ∙ c.loop-name.invariant.along;
    }
