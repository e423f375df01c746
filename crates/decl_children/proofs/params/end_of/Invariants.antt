use Rattle.std.proofs.Common.{List, length}
use Rattle.decl_grammar.specs.declared.symbol.Symbol.{Symbol}
use Rattle.decl_grammar.specs.declared.written.ParamEnd.{ParamEnd}
use Rattle.decl_children.specs.ParamReads.{EndRead}
use Rattle.decl_children.proofs.params.end_of.Given as goal

abbrev pub invariant-row : goal.invariant-row
invariant-row l =
    ((e : ParamEnd) (rest : List Symbol) → EndRead l.fn.room l.fn.first l.fn.symbols e rest → EndRead l.fn.room l.fn.first l.rest e rest)
    × ((e : ParamEnd) (rest : List Symbol) → EndRead l.fn.room l.fn.first l.rest e rest → EndRead l.fn.room l.fn.first l.fn.symbols e rest)

abbrev pub decreases-row : goal.decreases-row
decreases-row l = length l.rest
