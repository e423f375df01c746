use Rattle.std.proofs.Common.{string_bytes, ap, ◌∙◌}
use Rattle.std.specs.FinMap.{insert}
use Rattle.project_units.proofs.LentFiles.{files_lent-insert}
use Rattle.project_units.proofs.sources.Sources.insert.Goals as goal

pub returns : goal.returns
returns c =
    files_lent-insert c.self.inside.lent c.insert.new.self (string_bytes c.args.path) c.args.content c.in_ok-insert.ensures.updates
    ∙ ap (λ files. insert files (string_bytes c.args.path) c.args.content.now) c.self.view_is
