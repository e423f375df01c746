use Rattle.std.proofs.Common.{◌∙◌, sym}
use Rattle.decl_children.proofs.WalkAnswers.{final-finds, plain-finds}
use Rattle.decl_children.proofs.params.first_behind_of.Goals as goal

pub returns-then-is_next : goal.returns-then-is_next
returns-then-is_next c = final-finds c.args.room c.args.symbols.now c.behind.result.now c.param_of.result (sym c.is_next.ensures ∙ c.if-is_next.true) c.behind.ensures c.param_of.ensures

pub returns : goal.returns
returns c = plain-finds c.args.room c.args.symbols.now c.based_of.result (sym c.is_next.ensures ∙ c.if-is_next.false) c.based_of.ensures
