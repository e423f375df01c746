use Rattle.std.proofs.Common.{◌≡◌, ◌++◌, drop, map}
use Rattle.round_engine.specs.Run.{supported_in}
use Rattle.round_engine.proofs.beginning.all_supported.Given as goal

-- what the processors so far support, and what those to come do
abbrev pub invariant-loop-hello : goal.invariant-loop-hello
invariant-loop-hello l = l.list ++ map supported_in (drop l.hello-index l.hellos) ≡ map supported_in l.hellos
