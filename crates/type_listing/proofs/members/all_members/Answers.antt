use Rattle.type_listing.proofs.GatheredMembers.{answered_none, answered_some}
use Rattle.type_listing.proofs.members.all_members.Goals as goal

pub returns-in-None : goal.returns-in-None
returns-in-None c =
    answered_none c.args.table.now c.new-remembered.result c.args.at.now 64 c.in_ok-known_members.field-0 c.new-remembered.ensures c.in-None.is
    c.in_ok-known_members.ensures.known

pub returns : goal.returns
returns c =
    answered_some c.args.table.now c.new-remembered.result c.args.at.now 64 c.in_ok-known_members.field-0 c.in-Some.known c.new-remembered.ensures c.in-Some.is
    c.in_ok-known_members.ensures.known
