use Rattle.std.proofs.Common.{◌++◌, ap, ◌∙◌}
use Rattle.apt_base.specs.Identifiers.{parts}
use Rattle.apt_base.proofs.Dotted.{utf8_after}
use Rattle.name_resolve.specs.Parts.{lent}
use Rattle.name_resolve.proofs.NameParts.{texts_of-more, part_more, part_last}
use Rattle.name_resolve.proofs.names.split.Goals as goal

pub loop-first-preserved : goal.loop-first-preserved
loop-first-preserved c =
    let split = c.in-Some.ensures in (
      utf8_after c.loop-first.rest.now c.in-Some.first.now c.in-Some.after.now split.0 c.loop-first.invariant.0,
      ap (λ names. names ++ parts c.in-Some.after.now) (ap lent c.in_ok-push.ensures.items ∙ texts_of-more c.loop-first.names.items c.in-Some.first)
          ∙ part_more c.args.text.now c.loop-first.rest.now c.in-Some.first.now c.in-Some.after.now (lent c.loop-first.names.items) split.0 split.1 c.loop-first.invariant.1,
    )

pub returns : goal.returns
returns c =
    ap lent c.in_ok-push-2.ensures.items ∙ texts_of-more c.loop-first.names.items c.loop-first.rest
    ∙ part_last c.args.text.now c.loop-first.rest.now (lent c.loop-first.names.items) c.in_default.ensures c.loop-first.invariant.1
