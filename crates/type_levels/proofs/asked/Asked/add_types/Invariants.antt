use Rattle.std.proofs.Common.{◌≡◌, drop, map}
use Rattle.type_levels.specs.Levels.{below_type, with_pairs}
use Rattle.type_levels.proofs.asked.Asked.add_types.Given as goal

abbrev pub invariant-loop-sub : goal.invariant-loop-sub
invariant-loop-sub l = with_pairs l.self (map (below_type l.sup) (drop l.sub-index l.types)) ≡ with_pairs l.fn.self (map (below_type l.sup) l.types)
