use Rattle.apt_base.specs.Limits.{max_type_steps}
use Rattle.type_subtypes.proofs.SignatureLaws.{none-given, one-given}
use Rattle.type_subtypes.proofs.signatures.subsignature.Goals as goal

pub returns-in-None : goal.returns-in-None
returns-in-None c = none-given c.args.table.now max_type_steps c.args.a.now c.args.b.now c.in-None.ensures

pub returns-in_ok-answer-in-Some : goal.returns-in_ok-answer-in-Some
returns-in_ok-answer-in-Some c =
    one-given c.args.table.now max_type_steps c.args.a.now c.args.b.now c.in-Some.one.now c.in_ok-answer-in-Some.answer c.in-Some.ensures c.in_ok-answer-in-Some.ensures
