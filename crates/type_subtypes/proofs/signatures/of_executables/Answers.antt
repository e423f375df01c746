use Rattle.std.proofs.Common.{ap, ◌∙◌}
use Rattle.apt_base.specs.Limits.{max_type_steps}
use Rattle.type_levels.specs.Answers.{either}
use Rattle.type_levels.specs.declared.answer.Answer.{Answer}
use Rattle.type_subtypes.proofs.SignatureLaws.{signatures-given}
use Rattle.type_subtypes.proofs.signatures.of_executables.Goals as goal

pub returns : goal.returns
returns c =
    signatures-given c.args.table.now max_type_steps c.args.one.now c.args.other.now c.as_slice.result.now c.as_slice-ones.result.now c.as_slice-2.result.now c.as_slice-others.result.now
    c.in_ok-renamed.renamed c.in_ok-erased.erased c.or.result c.as_slice.ensures c.as_slice-ones.ensures c.as_slice-2.ensures c.as_slice-others.ensures c.in_ok-renamed.ensures
    c.in_ok-erased.ensures (c.or.ensures ∙ ap (λ (x : Answer). either x c.in_ok-erased.erased) c.of_test.ensures)
