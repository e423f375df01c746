use Rattle.std.proofs.Common.{sym, arith}
use Rattle.type_listing.proofs.AskedMembers.{place_within, among_found, among_next, among_none}
use Rattle.type_listing.proofs.members.is_among.Goals as goal

pub get-requires : goal.get-requires
get-requires c =
    place_within c.args.list.now c.args.at.now c.in_ok-places.places.now c.loop-place.place-index c.in_ok-places.ensures.within c.loop-place-test.true

pub returns-then-is_equal : goal.returns-then-is_equal
returns-then-is_equal c =
    among_found c.args.list.now c.args.at.now c.in_ok-places.places.now c.loop-place.place-index c.get.result.now
    c.in_ok-places.ensures.named c.in_ok-places.ensures.within c.loop-place-test.true c.get.ensures (sym c.if-is_equal.ensures.tests) c.loop-place.invariant

pub loop-place-preserved : goal.loop-place-preserved
loop-place-preserved c =
    among_next c.args.list.now c.args.at.now c.in_ok-places.places.now c.loop-place.place-index c.get.result.now
    c.in_ok-places.ensures.within c.loop-place-test.true c.get.ensures (sym c.if-is_equal.ensures.tests) c.loop-place.invariant

pub returns : goal.returns
returns c =
    among_none c.args.list.now c.args.at.now c.in_ok-places.places.now c.loop-place.place-index c.in_ok-places.ensures.named (omega arith) c.loop-place.invariant
