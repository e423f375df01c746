use Rattle.std.proofs.Common.{◌≡◌, drop}
use Rattle.type_listing.specs.Members.{with_members}
use Rattle.type_listing.proofs.members.add_all.Given as goal

-- the list so far with the rest is the list with all of them; the table and the type stay
abbrev pub invariant-loop-each : goal.invariant-loop-each
invariant-loop-each l =
    (l.list.table ≡ l.fn.list.table)
    × (with_members l.fn.list.table l.within l.list.list (drop l.each-index l.others) ≡ with_members l.fn.list.table l.within l.fn.list.list l.others)
    × (l.methods ≡ l.fn.methods)
