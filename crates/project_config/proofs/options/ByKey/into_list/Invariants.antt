use Rattle.std.proofs.Common.{◌≡◌, ◌++◌, map}
use Rattle.std.specs.FinMap.{entries}
use Rattle.project_config.specs.Options.{shown_entry}
use Rattle.project_config.proofs.options.ByKey.into_list.Given as goal

-- the options so far, and those to come
abbrev pub invariant-loop-key : goal.invariant-loop-key
invariant-loop-key l = l.options ++ map shown_entry l.key-iterator ≡ entries l.fn.self
