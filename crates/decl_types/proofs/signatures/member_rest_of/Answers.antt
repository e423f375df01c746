use Rattle.std.proofs.Common.{sym, ◌∙◌}
use Rattle.decl_types.proofs.MemberRests.{any-method, element-method}
use Rattle.decl_types.proofs.signatures.member_rest_of.Goals as goal

pub returns-then-is_next : goal.returns-then-is_next
returns-then-is_next c = rw (any-method c.args.of c.args.name c.args.room c.args.kind c.args.symbols.now c.in-Any.is (sym c.is_next.ensures ∙ c.if-is_next.true)) c.method_of.ensures

pub returns-then-is_next-2 : goal.returns-then-is_next-2
returns-then-is_next-2 c = rw (element-method c.args.of c.args.name c.args.room c.args.kind c.args.symbols.now c.in-Element.is (sym c.is_next-in-Element.ensures ∙ c.if-is_next-2.true)) c.element_of.ensures
