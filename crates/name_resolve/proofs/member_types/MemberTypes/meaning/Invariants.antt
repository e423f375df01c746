use Rattle.std.proofs.Common.{◌≡◌}
use Rattle.name_resolve.specs.Remembered.{AreRight}
use Rattle.name_resolve.proofs.member_types.MemberTypes.meaning.Given as goal

-- all stays right, and the table the same
abbrev pub invariant-loop : goal.invariant-loop
invariant-loop l = AreRight l.self × (l.self.table.now ≡ l.fn.self.table.now)
