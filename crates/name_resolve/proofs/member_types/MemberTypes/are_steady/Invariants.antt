use Rattle.std.proofs.Common.{ℕ, ◌<◌, ◌≤◌}
use Rattle.name_resolve.specs.declared.memory.Question.{Question}
use Rattle.name_resolve.specs.Remembered.{Stands, IsSteady}
use Rattle.name_resolve.proofs.member_types.MemberTypes.are_steady.Given as goal

-- those in front of this place that are not settled are steady
abbrev pub invariant-loop-place : goal.invariant-loop-place
invariant-loop-place l = (at : ℕ) (q : Question) → l.self.settled.count ≤ at → at < l.place → Stands l.self at q → IsSteady q l.fewer l.levels
