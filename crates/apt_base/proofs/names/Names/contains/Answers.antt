use Rattle.std.proofs.Common.{sym, ap, ◌∙◌}
use Rattle.std.specs.FinMap as fin
use Rattle.apt_base.proofs.NameSets.{contains-names_of}
use Rattle.apt_base.proofs.names.Names.contains.Goals as goal

pub returns : goal.returns
returns c =
    c.contains.ensures
    ∙ sym (contains-names_of c.self.inside.held c.args.name.now)
    ∙ ap (λ names. fin.contains_key names c.args.name.now) c.self.view_is
