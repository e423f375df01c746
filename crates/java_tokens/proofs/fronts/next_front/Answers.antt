use Rattle.std.specs.Str.{chars}
use Rattle.java_tokens.proofs.NextFronts.{no_next_none}
use Rattle.java_tokens.proofs.fronts.next_front.Goals as goal

pub returns-in-None : goal.returns-in-None
returns-in-None c = no_next_none (chars c.args.text.now) c.in-None.ensures
