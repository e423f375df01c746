use Rattle.std.proofs.Common.{◌∙◌, sym, inl, inr, arith}
use Rattle.decl_children.proofs.WalkTells.{begins-none, begins-tell}
use Rattle.decl_children.proofs.types.begins_full.Goals as goal

pub returns-then-is_next : goal.returns-then-is_next
returns-then-is_next c = begins-none c.args.kind c.args.before c.args.symbols.now (inl (sym c.is_next.ensures ∙ c.if-is_next.true))

pub returns-then-is_next-2 : goal.returns-then-is_next-2
returns-then-is_next-2 c = begins-none c.args.kind c.args.before c.args.symbols.now (inr (sym c.is_next-2.ensures ∙ c.if-is_next-2.true))

pub returns : goal.returns
returns c =
    begins-tell c.args.kind c.args.before c.args.symbols.now c.starts_member.result (omega (arith, c.if-before-lt-MAX_CHILDREN.false)) (sym c.is_next.ensures ∙ c.if-is_next.false) (sym c.is_next-2.ensures ∙ c.if-is_next-2.false) c.starts_member.ensures
