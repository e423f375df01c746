use Rattle.std.proofs.Common.{sym, ap, is_some, ◌∙◌}
use Rattle.std.specs.FinMap.{contains_key}
use Rattle.name_index.proofs.TextMaps.{get-shown}
use Rattle.element_table.proofs.units.Units.contains.Goals as goal

pub returns : goal.returns
returns c =
    c.contains_key.ensures
    ∙ ap is_some (sym (get-shown c.self.inside.held c.args.name.now))
    ∙ ap (λ units. contains_key units c.args.name.now) c.self.view_is
