use Rattle.std.proofs.Common.{sym, ap, subst, ◌∙◌}
use Rattle.name_resolve.specs.Meaning.{members_of}
use Rattle.name_resolve.specs.Parts.{left}
use Rattle.name_resolve.specs.Placed.{ArePlaced}
use Rattle.name_resolve.specs.Shown.{find_of, super_of}
use Rattle.name_resolve.proofs.PlacedLemmas.{supertype-placed}
use Rattle.name_resolve.proofs.RememberedLemmas.{left-agrees}
use Rattle.name_resolve.proofs.member_types.MemberTypes.through.Goals as goal

-- what a supertype means is of the table
pub member_of-requires : goal.member_of-requires
member_of-requires c =
    let table = c.args.self.now.table.now in
    let above = c.in_ok-above.ensures.value (left table c.args.levels) (left-agrees c.args.self.now c.requires.right c.args.levels) in
    record { placed = subst (ArePlaced table) (sym above) (supertype-placed table c.args.levels (find_of c.args.of.now) c.requires.placed (super_of c.args.each)); right = c.requires.right }

pub returns-clause-value : goal.returns-clause-value
returns-clause-value c = λ members agrees.
    c.in_ok-finds.ensures.value members agrees ∙ ap (λ x. members_of members x c.args.name.now) (c.in_ok-above.ensures.value members agrees)
