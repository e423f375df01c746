use Rattle.std.proofs.Common.{ap, ◌∙◌}
use Rattle.std.specs.FinMap.{remove}
use Rattle.apt_base.specs.Names.{with_name}
use Rattle.apt_filer.proofs.FilerSets.{remove-with_name}
use Rattle.apt_filer.proofs.filer.take_names.Goals as goal

pub returns-in-Err-clause-paths_err : goal.returns-in-Err-clause-paths_err
returns-in-Err-clause-paths_err c =
    let paths = c.args.paths.now in
    let path = c.args.path.now in
    c.remove.ensures
    ∙ ap (remove c.insert.new.self) c.as_str-in-Err.ensures
    ∙ ap (λ names. remove names path) (c.in_ok-insert.ensures.ok ∙ ap (with_name paths) c.as_str.ensures)
    ∙ remove-with_name paths path c.requires.absent
