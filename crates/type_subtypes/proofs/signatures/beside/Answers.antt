use Rattle.apt_base.specs.Limits.{max_type_steps}
use Rattle.type_layers.specs.Layers.{layer}
use Rattle.type_subtypes.proofs.SignatureLaws.{beside-given}
use Rattle.type_subtypes.proofs.signatures.beside.Goals as goal

pub returns-in_ok-answer-in-Some : goal.returns-in_ok-answer-in-Some
returns-in_ok-answer-in-Some c =
    beside-given c.args.table.now max_type_steps c.args.one.now c.in-Some.other.now (layer c.args.b.now) c.in_ok-answer-in-Some.answer c.in-Some.ensures c.in_ok-answer-in-Some.ensures
