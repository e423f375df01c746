use Rattle.std.proofs.Common.{◌≡◌, drop}
use Rattle.project_config.specs.Options.{put_all}
use Rattle.project_config.proofs.options.ByKey.put_all.Given as goal

-- what the options that are left come to
abbrev pub invariant-loop-option : goal.invariant-loop-option
invariant-loop-option l = put_all l.self (drop l.option-index l.options) ≡ put_all l.fn.self l.options
