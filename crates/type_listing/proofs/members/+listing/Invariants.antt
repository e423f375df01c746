use Rattle.std.proofs.Common.{◌≡◌, ◌*◌, ◌+◌, ◌≤◌, drop}
use Rattle.type_overriding.specs.Methods.{container_of}
use Rattle.type_listing.specs.Remembered.{IsGathered}
use Rattle.type_listing.proofs.members.+listing.Given as goal

-- those of a supertype are asked for with a level less
abbrev pub decreases-gathered : goal.decreases-gathered
decreases-gathered l = 2 * l.levels

abbrev pub decreases-known_members : goal.decreases-known_members
decreases-known_members l = 2 * l.levels + 1

-- the members so far, with those of the supertypes that are left; the table and the type stay
abbrev pub invariant-gathered-loop-each : goal.invariant-gathered-loop-each
invariant-gathered-loop-each l =
    (l.remembered ≡ l.fn.remembered) × (l.list.table ≡ l.fn.remembered) × (l.wanted ≤ l.levels)
    × IsGathered l.fn.remembered l.at (drop l.each-index l.supers) l.wanted l.list.list
    × (l.methods ≡ container_of l.fn.remembered l.at)
