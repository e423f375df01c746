use Rattle.std.proofs.Common.{◌∙◌}
use Rattle.apt_base.specs.Identifiers.{is_dotted, is_identifier}
use Rattle.apt_base.proofs.Dotted.{utf8_after, names_then-ends, names_then-goes, names_then-done}
use Rattle.apt_base.proofs.identifier.is_dotted.Goals as goal

pub returns-then-not-is_identifier : goal.returns-then-not-is_identifier
unfolding is_dotted
returns-then-not-is_identifier c =
    names_then-ends is_identifier c.args.text.now c.loop-first.rest.now c.in-Some.first.now c.in-Some.after.now c.in-Some.ensures.0 c.in-Some.ensures.1 c.loop-first.invariant.1 c.if-not-is_identifier.ensures

pub loop-first-preserved : goal.loop-first-preserved
loop-first-preserved c = (utf8_after c.loop-first.rest.now c.in-Some.first.now c.in-Some.after.now c.in-Some.ensures.0 c.loop-first.invariant.0, names_then-goes is_identifier c.args.text.now c.loop-first.rest.now c.in-Some.first.now c.in-Some.after.now c.in-Some.ensures.0 c.in-Some.ensures.1 c.loop-first.invariant.1 c.if-not-is_identifier.ensures)

pub returns : goal.returns
unfolding is_dotted
returns c = c.is_identifier-2.ensures ∙ names_then-done is_identifier c.args.text.now c.loop-first.rest.now c.in_default.ensures c.loop-first.invariant.1
