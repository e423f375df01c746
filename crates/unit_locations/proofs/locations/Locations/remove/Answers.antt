use Rattle.std.proofs.Common.{ap, ◌∙◌}
use Rattle.std.specs.FinMap.{remove}
use Rattle.unit_locations.proofs.LocatedLemmas.{shown-remove}
use Rattle.unit_locations.proofs.locations.Locations.remove.Goals as goal

pub returns : goal.returns
returns c =
    shown-remove c.self.inside.held c.remove.new.self c.args.name.now c.remove.ensures.updates
    ∙ ap (λ locations. remove locations c.args.name.now) c.self.view_is
