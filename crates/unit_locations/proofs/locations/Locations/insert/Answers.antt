use Rattle.std.proofs.Common.{string_bytes, ap, ◌∙◌}
use Rattle.std.specs.FinMap.{insert}
use Rattle.name_index.proofs.TextMaps.{shown-insert}
use Rattle.unit_locations.proofs.locations.Locations.insert.Goals.{in-Ok, in-Err}
use Rattle.unit_locations.proofs.locations.Locations.insert.Goals as goal

pub returns-clause-ok : goal.returns-clause-ok
returns-clause-ok c =
    elim c.match-insert.branch [
      | in-Ok w ↦
          rw w.result-is
          (shown-insert c.self.inside.held c.insert.new.self (string_bytes c.args.name) c.args.location w.in-Ok.ensures.updates
          ∙ ap (λ units. insert units (string_bytes c.args.name) c.args.location) c.self.view_is)
      | in-Err w ↦ rw w.result-is tt
    ]
