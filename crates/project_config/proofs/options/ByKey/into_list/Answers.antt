use Rattle.std.proofs.Common.{map, ◌++◌, ap, sym, ◌∙◌}
use Rattle.std.specs.FinMap.{entries}
use Rattle.project_config.specs.Options.{shown_entry}
use Rattle.project_config.proofs.TextMaps.{entries-shown}
use Rattle.project_config.proofs.options.ByKey.into_list.Goals as goal

pub loop-key-init : goal.loop-key-init
loop-key-init c =
    ap (λ options. options ++ map shown_entry c.into_iter-key-iterator.result) c.new-options.ensures
    ∙ ap (map shown_entry) c.into_iter-key-iterator.ensures.into_iter_gives.0
    ∙ sym (entries-shown c.self.inside.held c.into_iter-key-iterator.ensures.into_iter_gives.5)
    ∙ ap entries c.self.view_is
