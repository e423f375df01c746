use Rattle.std.proofs.Common.{Bool, ◌||◌, ap, ◌∙◌}
use Rattle.apt_base.specs.Identifiers.{is_pattern, is_identifier, is_star}
use Rattle.apt_base.proofs.Dotted.{utf8_after, names_then-ends, names_then-goes, names_then-done}
use Rattle.apt_base.proofs.identifier.is_pattern.Goals as goal

pub returns-then-not-is_identifier : goal.returns-then-not-is_identifier
unfolding is_pattern
returns-then-not-is_identifier c =
    names_then-ends (λ last. is_star last || is_identifier last) c.args.text.now c.loop-first.rest.now c.in-Some.first.now c.in-Some.after.now c.in-Some.ensures.0 c.in-Some.ensures.1 c.loop-first.invariant.1 c.if-not-is_identifier.ensures

pub loop-first-preserved : goal.loop-first-preserved
loop-first-preserved c = (utf8_after c.loop-first.rest.now c.in-Some.first.now c.in-Some.after.now c.in-Some.ensures.0 c.loop-first.invariant.0, names_then-goes (λ last. is_star last || is_identifier last) c.args.text.now c.loop-first.rest.now c.in-Some.first.now c.in-Some.after.now c.in-Some.ensures.0 c.in-Some.ensures.1 c.loop-first.invariant.1 c.if-not-is_identifier.ensures)

pub returns-then-eq : goal.returns-then-eq
unfolding is_pattern
returns-then-eq c = c.if-eq.true ∙ ap (λ (b : Bool). b || is_identifier c.loop-first.rest.now) c.if-eq.ensures ∙ names_then-done (λ last. is_star last || is_identifier last) c.args.text.now c.loop-first.rest.now c.in_default.ensures c.loop-first.invariant.1

pub returns-else-eq : goal.returns-else-eq
unfolding is_pattern
returns-else-eq c = c.is_identifier-else-eq.ensures ∙ ap (λ (b : Bool). b || is_identifier c.loop-first.rest.now) c.if-eq.ensures ∙ names_then-done (λ last. is_star last || is_identifier last) c.args.text.now c.loop-first.rest.now c.in_default.ensures c.loop-first.invariant.1
