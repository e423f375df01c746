use Rattle.std.proofs.Common.{ap, ◌∙◌}
use Rattle.std.specs.FinMap as fin
use Rattle.apt_base.proofs.NameSets.{names_of-remove}
use Rattle.apt_base.proofs.names.Names.remove.Goals as goal

pub returns : goal.returns
returns c =
    names_of-remove c.self.inside.held c.remove.new.self c.args.name.now c.remove.ensures.updates
    ∙ ap (λ names. fin.remove names c.args.name.now) c.self.view_is
