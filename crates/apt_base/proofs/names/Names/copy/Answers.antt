use Rattle.std.proofs.Common.{ap, ◌∙◌}
use Rattle.apt_base.specs.Names.{with_names, names_in}
use Rattle.apt_base.proofs.NameSets.{with_names-all}
use Rattle.apt_base.proofs.names.Names.copy.Goals as goal

pub returns : goal.returns
returns c = c.in_ok-insert_all.ensures ∙ ap (λ names. with_names names (names_in c.args.self.now)) c.new-names.ensures ∙ with_names-all c.args.self.now
