use Rattle.std.proofs.Common.{length}
use Rattle.std.specs.Str.{chars}
use Rattle.java_tokens.proofs.Scans.{IsScanned}
use Rattle.java_tokens.proofs.automaton.scanned_front.Given as goal

abbrev pub invariant-loop-c : goal.invariant-loop-c
invariant-loop-c l = IsScanned (chars l.text) (length l.yielded) l.state l.width l.found
