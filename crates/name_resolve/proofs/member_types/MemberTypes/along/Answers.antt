use Rattle.std.proofs.Common.{sym, subst, ◌∙◌, arith}
use Rattle.name_resolve.specs.Parts.{left}
use Rattle.name_resolve.specs.Placed.{ArePlaced}
use Rattle.name_resolve.specs.Shown.{finds_of}
use Rattle.name_resolve.proofs.LookSteps.{along_next, along_over}
use Rattle.name_resolve.proofs.PlacedLemmas.{member-placed}
use Rattle.name_resolve.proofs.RememberedLemmas.{left-agrees}
use Rattle.name_resolve.proofs.member_types.MemberTypes.along.Goals as goal

pub member_of-requires : goal.member_of-requires
member_of-requires c = record { placed = c.loop-name.invariant.1; right = c.requires.right }

-- what the levels that are left give is of the table
pub loop-name-preserved : goal.loop-name-preserved
loop-name-preserved c =
    let table = c.args.self.now.table.now in
    let agrees = left-agrees c.args.self.now c.requires.right c.args.levels in (
      λ members agrees.
          along_next members c.args.names.now c.loop-name.name-index _ _ _ c.loop-name-test.true (c.in_ok-finds.ensures.value members agrees) ∙ c.loop-name.invariant.0 members agrees,
      subst (ArePlaced table) (sym (c.in_ok-finds.ensures.value (left table c.args.levels) agrees)) (member-placed table c.args.levels (finds_of c.loop-name.finds) c.loop-name.invariant.1 _),
    )

pub returns-clause-value : goal.returns-clause-value
returns-clause-value c = λ members agrees.
    sym (along_over members c.args.names.now c.loop-name.name-index (finds_of c.loop-name.finds) (omega arith)) ∙ c.loop-name.invariant.0 members agrees
