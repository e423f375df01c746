use Rattle.type_members.proofs.member_types.+nearest.Given as goal

abbrev pub decreases-nearest : goal.decreases-nearest
decreases-nearest l = l.steps
