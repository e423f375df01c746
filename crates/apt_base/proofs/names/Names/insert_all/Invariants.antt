use Rattle.std.proofs.Common.{◌≡◌, map, string_bytes}
use Rattle.apt_base.specs.Names.{with_names}
use Rattle.apt_base.proofs.names.Names.insert_all.Given as goal

-- the set with the names so far
abbrev pub invariant-loop-name : goal.invariant-loop-name
invariant-loop-name l = l.self ≡ with_names l.fn.self (map (λ k. string_bytes k.now) l.yielded)
