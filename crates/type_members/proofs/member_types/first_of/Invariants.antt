use Rattle.std.proofs.Common.{◌≡◌, drop}
use Rattle.type_members.specs.MemberNumbers.{first_at}
use Rattle.type_members.proofs.member_types.first_of.Given as goal

-- the first one of the rest is that of all
abbrev pub invariant-loop-number : goal.invariant-loop-number
invariant-loop-number l = first_at l.types l.at (drop l.number-index l.level) ≡ first_at l.types l.at l.level
