use Rattle.std.proofs.Common.{ap, ◌∙◌, string_bytes}
use Rattle.apt_base.specs.Names.{with_name, names_of}
use Rattle.apt_base.proofs.NameSets.{names_of-insert}
use Rattle.apt_base.proofs.names.Names.insert.Goals as goal

pub returns-clause-ok : goal.returns-clause-ok
returns-clause-ok c =
    names_of-insert c.self.inside.held c.insert.new.self (string_bytes c.in_ok-name.name) c.in_ok-insert.ensures.updates
    ∙ ap (λ name. with_name (names_of c.self.inside.held) name) c.in_ok-name.ensures.ok
    ∙ ap (λ names. with_name names c.args.name.now) c.self.view_is
