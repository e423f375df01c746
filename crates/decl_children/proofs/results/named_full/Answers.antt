use Rattle.std.proofs.Common.{List, length, ◌∙◌, sym, ap, subst, arith}
use Rattle.decl_grammar.specs.declared.symbol.Symbol.{Symbol}
use Rattle.decl_children.specs.Fronts.{Tells}
use Rattle.decl_children.specs.ParamReads.{ParamsCrowd}
use Rattle.decl_children.proofs.WalkAnswers.{unnamed, not-named, named-tells, result-less}
use Rattle.decl_children.proofs.results.named_full.Goals as goal

-- no result stands here
pub returns-in_default : goal.returns-in_default
returns-in_default c = unnamed c.args.before c.args.room c.args.symbols.now c.requires.room (rw c.in_default.is at c.in_ok-at.ensures)

-- no name with a bracket stands behind it
pub returns-then-not-is_constructor : goal.returns-then-not-is_constructor
returns-then-not-is_constructor c =
    not-named c.args.before c.args.room c.args.symbols.now c.in-Some.at.now c.requires.room (rw c.in-Some.is at c.in_ok-at.ensures) (sym c.is_constructor.ensures ∙ c.if-not-is_constructor.true)

pub returns : goal.returns
returns c =
    named-tells c.args.before c.args.room c.args.symbols.now c.in-Some.at.now c.params_full.result c.requires.room (rw c.in-Some.is at c.in_ok-at.ensures) (sym c.is_constructor.ensures ∙ c.if-not-is_constructor.false)
    (subst (λ (ts : List Symbol). Tells (ParamsCrowd c.args.before ts) c.params_full.result) c.behind.ensures c.params_full.ensures)

pub params_full-requires-clause-room : goal.params_full-requires-clause-room
params_full-requires-clause-room c =
    omega (arith, c.requires.room, ap length c.behind.ensures, result-less c.args.room c.args.symbols.now c.in-Some.at.now (rw c.in-Some.is at c.in_ok-at.ensures))
