use Rattle.std.proofs.Common.{◌≡◌, false, nat_eq, codes, rules}
use Rattle.std.specs.List.{ends_with}
use Rattle.element_table.specs.TableElements.{info_package}
use Rattle.element_table.proofs.Endings.{ends_with-none}
use Rattle.named_units.proofs.named.is_info_name.Goals as goal

pub returns-in-None : goal.returns-in-None
unfolding info_package
returns-in-None c =
    let no_end : ends_with nat_eq c.args.name.now (codes ".package-info") ≡ false = ends_with-none c.args.name.now (codes ".package-info") c.in-None.ensures.cases in
    search rules
