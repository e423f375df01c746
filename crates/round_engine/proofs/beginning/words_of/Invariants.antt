use Rattle.std.proofs.Common.{◌≡◌, take, map, string_bytes}
use Rattle.round_engine.proofs.beginning.words_of.Given as goal

-- the words so far
abbrev pub invariant-loop-word : goal.invariant-loop-word
invariant-loop-word l = map string_bytes l.words.items ≡ take l.word-index l.command
