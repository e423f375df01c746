use Rattle.std.proofs.Common.{take}
use Rattle.type_levels.specs.Numbered.{Grows}
use Rattle.type_levels.specs.Levels.{AreNext}
use Rattle.type_levels.proofs.search.all_next.Given as goal

abbrev pub invariant-loop-pair : goal.invariant-loop-pair
invariant-loop-pair g l =
    Grows (g.R.Relation.seen l.relation l.fn.types) (g.R.Relation.seen l.relation l.types)
    × AreNext (g.R.Relation.seen l.relation l.fn.types) (g.R.Relation.seen l.relation l.types) (take l.pair-index l.level) l.steps.items
