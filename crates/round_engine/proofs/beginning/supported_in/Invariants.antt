use Rattle.std.proofs.Common.{◌≡◌, ◌++◌, drop, filter}
use Rattle.apt_base.specs.Identifiers.{is_pattern}
use Rattle.round_engine.proofs.beginning.supported_in.Given as goal

-- the patterns so far, and those among the names that are left
abbrev pub invariant-loop-text : goal.invariant-loop-text
invariant-loop-text l = l.patterns ++ filter is_pattern (drop l.text-index l.hello.patterns) ≡ filter is_pattern l.hello.patterns
