use Rattle.std.proofs.Common.{sym, ap, ◌∙◌}
use Rattle.std.specs.FinMap.{get}
use Rattle.name_index.proofs.TextMaps.{get-shown}
use Rattle.unit_locations.proofs.locations.Locations.get.Goals as goal

pub returns : goal.returns
returns c =
    c.get.ensures.value
    ∙ sym (get-shown c.self.inside.held c.args.name.now)
    ∙ ap (λ units. get units c.args.name.now) c.self.view_is
