use Rattle.std.proofs.Common.{length}
use Rattle.std.specs.Str.{chars}
use Rattle.java_tokens.proofs.Offsets.{IsWalked}
use Rattle.java_tokens.proofs.chars.place_of.Given as goal

abbrev pub invariant-loop-c : goal.invariant-loop-c
invariant-loop-c l = IsWalked (chars l.text) (length l.yielded) l.place l.left l.at
