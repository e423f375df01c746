use Rattle.std.proofs.Common.{◌∙◌, sym}
use Rattle.decl_parser.proofs.fronts.settled.Goals as goal

pub returns-in-TooLarge : goal.returns-in-TooLarge
returns-in-TooLarge c = (sym c.in-TooLarge.is, λ place is. let both = sym c.in-TooLarge.is ∙ is in absurd cc)

pub returns-in-Memory : goal.returns-in-Memory
returns-in-Memory c = (sym c.in-Memory.is, λ place is. let both = sym c.in-Memory.is ∙ is in absurd cc)
