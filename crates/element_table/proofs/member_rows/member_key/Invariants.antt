use Rattle.std.proofs.Common.{◌≡◌, ◌∷◌, ◌++◌, take, flat_map, string_bytes}
use Rattle.element_table.specs.MemberTypes.{step_text}
use Rattle.element_table.proofs.member_rows.member_key.Given as goal

-- behind the name and the unit are the steps so far
abbrev pub invariant-loop-step : goal.invariant-loop-step
invariant-loop-step l = string_bytes l.key ≡ (l.name ++ 32 ∷ l.unit) ++ flat_map step_text (take l.step-index l.path)
