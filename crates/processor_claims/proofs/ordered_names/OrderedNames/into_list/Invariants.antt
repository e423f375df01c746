use Rattle.std.proofs.Common.{◌≡◌, ◌++◌, map, string_bytes}
use Rattle.processor_claims.proofs.ordered_names.OrderedNames.into_list.Given as goal

-- the names so far, and those to come
abbrev pub invariant-loop-name : goal.invariant-loop-name
invariant-loop-name l = l.names ++ map string_bytes l.name-iterator ≡ l.fn.self
