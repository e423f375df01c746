use Rattle.std.proofs.Common.{◌-◌, length, string_bytes}
use Rattle.java_tokens.proofs.Readings.{IsReading}
use Rattle.java_tokens.proofs.decoding.read_chars.Given as goal

abbrev pub invariant-loop-at : goal.invariant-loop-at
invariant-loop-at l = IsReading l.bytes (string_bytes l.text) l.shifts.items l.slashes l.at

abbrev pub decreases-loop-at : goal.decreases-loop-at
decreases-loop-at l = length l.bytes - l.at
