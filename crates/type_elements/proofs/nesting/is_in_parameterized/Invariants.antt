use Rattle.std.proofs.Common.{◌≡◌, ◌-◌, length, map}
use Rattle.std.specs.List.{list_any, range_with_len}
use Rattle.type_relations.specs.Elements.{has_type_parameters}
use Rattle.type_elements.specs.MemberElements.{front, is_in_parameterized}
use Rattle.type_elements.proofs.nesting.is_in_parameterized.Given as goal

-- what is around it up to here, and the test of those from here on is that of all
abbrev pub invariant-loop-step : goal.invariant-loop-step
invariant-loop-step l =
    (l.around ≡ front l.at l.step-index)
    × (list_any (has_type_parameters l.table) (map (front l.at) (range_with_len l.step-index (length l.at.path - l.step-index)))
    ≡ is_in_parameterized l.table l.at)
