use Rattle.std.proofs.Common.{refl, sym, subst, ◌∙◌}
use Rattle.name_resolve.specs.Finds.{declared_types}
use Rattle.name_resolve.specs.Placed.{IsPlaced}
use Rattle.name_resolve.specs.Remembered.{AreQuestions}
use Rattle.name_resolve.specs.Shown.{find_of}
use Rattle.name_resolve.proofs.member_types.MemberTypes.above.Goals as goal

pub returns-then-not-has_supertypes-clause-value : goal.returns-then-not-has_supertypes-clause-value
returns-then-not-has_supertypes-clause-value c = λ members agrees.
    sym (agrees.way.alone (find_of c.args.of.now) c.args.name.now c.requires.none (c.if-not-has_supertypes.ensures refl))

pub returns-in_ok-wanted-in-None-clause-wanted : goal.returns-in_ok-wanted-in-None-clause-wanted
returns-in_ok-wanted-in-None-clause-wanted c =
    let table = c.args.self.now.table.now in
    subst (AreQuestions table) (sym c.in_ok-wanted-in-None.ensures) (
      record {
        placed = subst (IsPlaced table) (sym c.in_ok-of-in-None.ensures) c.requires.placed;
        none = (λ i. declared_types (c.in_ok-of-in-None.ensures i) (c.in_ok-name-in-None.ensures i)) ∙ c.requires.none;
      },
      tt,
    )
