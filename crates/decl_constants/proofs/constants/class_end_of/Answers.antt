use Rattle.std.proofs.Common.{◌∙◌}
use Rattle.decl_constants.proofs.Pairs.{class-goes, class-ends, dims-fewer}
use Rattle.decl_constants.proofs.constants.class_end_of.Goals as goal

pub returns-then-not-more : goal.returns-then-not-more
returns-then-not-more c = c.literal_type.ensures ∙ class-ends _ c.row.around.items c.row.rest.now _ _ c.in_ok-more.ensures.0 c.if-not-more.true c.row.invariant

pub row-smaller : goal.row-smaller
row-smaller c = dims-fewer c.row.rest.now _ _ c.in_ok-more.ensures.0 c.if-not-more.false c.in_ok-more.ensures.1

pub row-preserved : goal.row-preserved
row-preserved c = class-goes _ c.row.around.items _ c.row.rest.now _ _ _ c.in_ok-more.ensures.0 c.if-not-more.false c.in_ok-more.ensures.1 c.in_ok-push.ensures.items c.row.invariant
