use Rattle.std.proofs.Common.{ℕ, List, [], Option, unwrap_or, ap, ◌∙◌}
use Rattle.std.proofs.lemmas.Option.{unwrap_or-slice_get}
use Rattle.apt_host.proofs.report.name_of.Goals as goal

pub returns-in-None : goal.returns-in-None
returns-in-None c = ap (λ (o : Option (List ℕ)). unwrap_or o []) c.in-None.ensures.value ∙ unwrap_or-slice_get c.args.processors.now c.args.number []
