use Rattle.decl_grammar.specs.Grammar.{line_alone}
use Rattle.decl_members.proofs.ApartLists.{push-mapped}
use Rattle.decl_members.proofs.made_members.apart_type_params.Goals as goal

pub loop-each-preserved : goal.loop-each-preserved
loop-each-preserved c = (
  push-mapped (λ p. p.param) c.loop-each.yielded c.in-Some.each _ _ c.loop-each.invariant.0 c.in_ok-push.ensures.ok,
  push-mapped (λ p. line_alone p.line) c.loop-each.yielded c.in-Some.each _ _ c.loop-each.invariant.1 (rw (← c.one_line.ensures) c.in_ok-push-2.ensures.ok),
)
