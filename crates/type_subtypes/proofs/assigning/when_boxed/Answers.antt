use Rattle.std.proofs.Common.{sym, ap, ◌∙◌}
use Rattle.apt_base.specs.Limits.{max_type_steps}
use Rattle.type_mirror.specs.declared.mirror.Mirror.{Mirror}
use Rattle.type_subtypes.specs.Subtypes.{subtype}
use Rattle.type_subtypes.proofs.Conversions.{boxed-some}
use Rattle.type_subtypes.proofs.assigning.when_boxed.Goals as goal

pub returns-in_ok-answer-in-Some : goal.returns-in_ok-answer-in-Some
returns-in_ok-answer-in-Some c =
    boxed-some c.args.table.now max_type_steps c.args.a.now c.args.b.now c.in-Some.kind c.in_ok-answer-in-Some.answer (sym c.primitive_of.ensures ∙ c.in-Some.is)
    (c.in_ok-answer-in-Some.ensures ∙ ap (λ (m : Mirror). subtype c.args.table.now max_type_steps m c.args.b.now) c.in_ok-boxed-in-Some.ensures)
