use Rattle.std.proofs.Common.{◌≡◌, ◌+◌, length}
use Rattle.java_tokens.specs.Tokens.{line_ends, returns}
use Rattle.java_tokens.proofs.place.place_after.Given as goal

abbrev pub invariant-bytes : goal.invariant-bytes
invariant-bytes l = record {
  line : l.line + line_ends l.after_return l.rest ≡ l.place.line + line_ends l.place.after_return l.text;
  after_return : returns l.after_return l.rest ≡ returns l.place.after_return l.text;
}

abbrev pub decreases-bytes : goal.decreases-bytes
decreases-bytes l = length l.rest
