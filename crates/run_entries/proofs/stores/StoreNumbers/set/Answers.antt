use Rattle.std.proofs.Common.{ap, ◌∙◌, string_bytes}
use Rattle.std.specs.FinMap as fin
use Rattle.name_index.proofs.TextMaps.{shown-insert}
use Rattle.run_entries.specs.Maps.{stores_of}
use Rattle.run_entries.proofs.stores.StoreNumbers.set.Goals as goal

pub returns-clause-ok : goal.returns-clause-ok
returns-clause-ok c =
    shown-insert c.self.inside.held c.insert.new.self (string_bytes c.in_ok-path.path) c.args.number c.in_ok-insert.ensures.updates
    ∙ ap (λ path. fin.insert (stores_of c.self.inside.held) path c.args.number) c.in_ok-path.ensures.ok
    ∙ ap (λ path. fin.insert (stores_of c.self.inside.held) path c.args.number) c.as_str.ensures
    ∙ ap (λ stores. fin.insert stores c.args.path.now c.args.number) c.self.view_is
