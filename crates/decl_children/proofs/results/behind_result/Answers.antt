use Rattle.std.proofs.Common.{◌∙◌, sym, refl, inl, inr}
use Rattle.decl_children.proofs.WalkAnswers.{result-finds}
use Rattle.decl_children.proofs.results.behind_result.Goals as goal

pub returns-then-is_next : goal.returns-then-is_next
returns-then-is_next c = inl (sym c.is_next.ensures ∙ c.if-is_next.true, c.behind.ensures)

pub returns-then-is_constructor : goal.returns-then-is_constructor
returns-then-is_constructor c = inr (sym c.is_next.ensures ∙ c.if-is_next.false, inl (sym c.is_constructor.ensures ∙ c.if-is_constructor.true, refl))

pub returns : goal.returns
returns c = result-finds c.args.room c.args.symbols.now c.behind_type.result (sym c.is_next.ensures ∙ c.if-is_next.false) (sym c.is_constructor.ensures ∙ c.if-is_constructor.false) c.behind_type.ensures
