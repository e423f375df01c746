use Rattle.std.proofs.Common.{◌≡◌, is_some, true, vec_len}
use Rattle.name_resolve.specs.Ways.{node_at}
use Rattle.name_resolve.specs.Meaning.{Members}
use Rattle.name_resolve.specs.Parts.{enclosing_finds}
use Rattle.name_resolve.specs.Placed.{IsPlaced}
use Rattle.name_resolve.specs.Remembered.{Agrees}
use Rattle.name_resolve.specs.Shown.{find_of}
use Rattle.name_resolve.proofs.member_types.MemberTypes.in_elements.Given as goal

-- all that is left to ask finds what all finds; what stands here is there and of the table
abbrev pub invariant-loop-here : goal.invariant-loop-here
invariant-loop-here l =
    ((members : Members) → Agrees l.self l.levels members → enclosing_finds members (find_of l.here) l.name ≡ enclosing_finds members (find_of l.fn.innermost) l.name)
    × ((is_some (node_at l.here.unit.now l.here.path.items) ≡ true) × IsPlaced l.self.table.now (find_of l.here))

abbrev pub decreases-loop-here : goal.decreases-loop-here
decreases-loop-here l = vec_len l.here.path
