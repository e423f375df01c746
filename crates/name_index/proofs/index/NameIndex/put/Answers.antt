use Rattle.std.proofs.Common.{ap, ◌∙◌, string_bytes}
use Rattle.std.specs.FinMap as fin
use Rattle.name_index.specs.Index.{index_of}
use Rattle.name_index.proofs.TextMaps.{shown-insert}
use Rattle.name_index.proofs.index.NameIndex.put.Goals as goal

pub returns-clause-ok : goal.returns-clause-ok
returns-clause-ok c =
    shown-insert c.self.inside.held c.insert.new.self (string_bytes c.in_ok-at.at) c.args.names c.in_ok-insert.ensures.updates
    ∙ ap (λ at. fin.insert (index_of c.self.inside.held) at c.args.names) c.in_ok-at.ensures.ok
    ∙ ap (λ index. fin.insert index c.args.at.now c.args.names) c.self.view_is
