use Rattle.std.proofs.Common.{◌+◌, ◌*◌, length}
use Rattle.decl_children.specs.WalkSteps.{MembersSame}
use Rattle.decl_children.proofs.types.+types.Given as goal

abbrev pub decreases-walk_members : goal.decreases-walk_members
decreases-walk_members l = 8 * length l.symbols.now + 4

abbrev pub decreases-walk_member : goal.decreases-walk_member
decreases-walk_member l = 8 * length l.symbols.now + 3

abbrev pub decreases-walk_type : goal.decreases-walk_type
decreases-walk_type l = 8 * length l.symbols.now + 2

abbrev pub decreases-walk_headed : goal.decreases-walk_headed
decreases-walk_headed l = 8 * length l.symbols.now + 1

abbrev pub decreases-walk_enum : goal.decreases-walk_enum
decreases-walk_enum l = 8 * length l.symbols.now + 1

abbrev pub decreases-walk_behind_constants : goal.decreases-walk_behind_constants
decreases-walk_behind_constants l = 8 * length l.symbols.now + 0

abbrev pub invariant-walk_members-row : goal.invariant-walk_members-row
invariant-walk_members-row l = MembersSame l.kind l.fn.before l.fn.symbols l.so_far l.constructor l.rest

abbrev pub decreases-walk_members-row : goal.decreases-walk_members-row
decreases-walk_members-row l = length l.rest
