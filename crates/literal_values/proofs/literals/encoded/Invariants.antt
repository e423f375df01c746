use Rattle.std.proofs.Common.{◌≡◌, ◌++◌, drop, encode_utf8_all, string_bytes}
use Rattle.literal_values.proofs.literals.encoded.Given as goal

-- what is written with what is left is the whole
abbrev pub invariant-loop-c : goal.invariant-loop-c
invariant-loop-c l = string_bytes l.all ++ encode_utf8_all (drop l.c-index l.text) ≡ encode_utf8_all l.text
