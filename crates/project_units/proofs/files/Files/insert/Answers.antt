use Rattle.std.proofs.Common.{string_bytes, ap, ◌∙◌}
use Rattle.std.specs.FinMap.{insert}
use Rattle.apt_outside.proofs.HeldLemmas.{files_of-insert}
use Rattle.project_units.proofs.files.Files.insert.Goals as goal

pub returns : goal.returns
returns c =
    files_of-insert c.self.inside.held c.insert.new.self (string_bytes c.args.path) c.args.bytes c.in_ok-insert.ensures.updates
    ∙ ap (λ files. insert files (string_bytes c.args.path) c.args.bytes.items) c.self.view_is
