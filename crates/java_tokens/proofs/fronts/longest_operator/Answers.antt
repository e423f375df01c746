use Rattle.std.proofs.Common.{◌∙◌, take, ap, sym, rules}
use Rattle.case_table.specs.Rows.{number_of}
use Rattle.java_tokens.proofs.LongestFronts.{tried_none, tried_more, tried_all, tried_found}
use Rattle.java_tokens.proofs.fronts.longest_operator.Goals as goal

pub loop-width-init : goal.loop-width-init
loop-width-init c = tried_none c.args.bytes.now c.min-width.result (search rules)

pub returns-in-Some : goal.returns-in-Some
returns-in-Some c =
    tried_found c.args.bytes.now c.loop-width.width c.in-Some.number c.loop-width.invariant (sym (c.find.ensures ∙ ap (λ rows. number_of rows (take c.loop-width.width c.args.bytes.now)) c.requires) ∙ c.in-Some.is)

pub loop-width-preserved : goal.loop-width-preserved
loop-width-preserved c =
    tried_more c.args.bytes.now c.loop-width.width c.loop-width.invariant c.loop-width-test.true (sym (c.find.ensures ∙ ap (λ rows. number_of rows (take c.loop-width.width c.args.bytes.now)) c.requires) ∙ c.in-None.is)

pub returns : goal.returns
returns c = tried_all c.args.bytes.now c.loop-width.width c.loop-width.invariant c.loop-width-test.false
