use Rattle.std.proofs.Common.{◌≡◌, map, take, string_bytes}
use Rattle.memory_children.proofs.call.copy_call.Given as goal

abbrev pub invariant-loop-word : goal.invariant-loop-word
invariant-loop-word l = map string_bytes l.words.items ≡ map string_bytes (take l.word-index l.command)
