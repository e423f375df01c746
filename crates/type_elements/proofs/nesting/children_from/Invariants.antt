use Rattle.std.proofs.Common.{◌≡◌, ◌≤◌, ◌-◌}
use Rattle.type_elements.specs.MemberElements.{children_from}
use Rattle.type_elements.proofs.nesting.children_from.Given as goal

-- the children so far, of which there are no more than in the end
abbrev pub invariant-loop-number : goal.invariant-loop-number
invariant-loop-number l =
    (l.first ≤ l.number) × (l.number - l.first ≤ l.count - l.first) × (l.list ≡ children_from l.at l.first l.number)
