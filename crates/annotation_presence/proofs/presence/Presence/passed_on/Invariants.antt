use Rattle.std.proofs.Common.{◌≡◌, ◌++◌, filter}
use Rattle.annotation_presence.specs.Carried.{is_passed_on}
use Rattle.annotation_presence.specs.Shown.{carried_in}
use Rattle.annotation_presence.proofs.presence.Presence.passed_on.Given as goal

-- those so far, and then those that are left, over the same table
abbrev pub invariant-loop-each : goal.invariant-loop-each
invariant-loop-each l = (l.self ≡ l.fn.self) × (carried_in l.list.items ++ filter (is_passed_on l.fn.self (carried_in l.own)) (carried_in l.each-iterator.rest.items)
    ≡ filter (is_passed_on l.fn.self (carried_in l.own)) (carried_in l.fn.above.items))
