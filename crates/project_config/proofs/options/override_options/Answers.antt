use Rattle.std.proofs.Common.{◌≡◌, IfOk, rules}
use Rattle.project_config.specs.Options.{with_options}
use Rattle.project_config.proofs.OptionLaws.{over-ok}
use Rattle.project_config.proofs.options.override_options.Goals as goal

pub returns-clause-over : goal.returns-clause-over
returns-clause-over c =
    let list : IfOk c.into_list.result (λ list. list ≡ with_options c.args.options.now c.args.words.now) = search rules in
    over-ok c.into_list.result c.args.options.now c.args.words.now list
