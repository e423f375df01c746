use Rattle.std.proofs.Common.{sym, ap, ◌∙◌}
use Rattle.std.specs.FinMap.{get}
use Rattle.name_index.proofs.TextMaps.{get-shown}
use Rattle.name_index.proofs.index.NameIndex.names.Goals as goal

pub returns : goal.returns
returns c =
    c.get.ensures.value
    ∙ sym (get-shown c.self.inside.held c.args.at.now)
    ∙ ap (λ index. get index c.args.at.now) c.self.view_is
