use Rattle.std.proofs.Common.{◌≡◌, ◌++◌, map, string_bytes}
use Rattle.processor_claims.proofs.kinds_file.KindsByName.into_list.Given as goal

-- the entries so far, and those to come
abbrev pub invariant-loop-name : goal.invariant-loop-name
invariant-loop-name l = l.kinds ++ map (λ entry. (string_bytes entry.0, entry.1)) l.name-iterator ≡ l.fn.self
