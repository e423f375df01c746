use Rattle.std.proofs.Common.{string_bytes, ap, ◌∙◌}
use Rattle.std.specs.FinMap.{insert}
use Rattle.project_config.proofs.TextMaps.{shown-insert}
use Rattle.project_config.proofs.options.ByKey.put.Goals as goal

pub returns : goal.returns
returns c =
    shown-insert c.self.inside.held c.insert.new.self (string_bytes c.in_ok-key.key) c.in_ok-value.value c.in_ok-insert.ensures.updates
    ∙ ap (λ held. insert held (string_bytes c.in_ok-key.key) c.in_ok-value.value) c.self.view_is
    ∙ ap (λ key. insert c.args.self.now key c.in_ok-value.value) (c.in_ok-key.ensures.ok ∙ c.as_str.ensures)
    ∙ ap (insert c.args.self.now c.args.key.now) c.in_ok-value.ensures
