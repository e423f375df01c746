use Rattle.std.proofs.Common.{◌≡◌, map, string_bytes}
use Rattle.apt_base.proofs.names.Names.list.Given as goal

-- the names so far
abbrev pub invariant-loop-name : goal.invariant-loop-name
invariant-loop-name l = l.names ≡ map (λ k. string_bytes k.now) l.yielded
