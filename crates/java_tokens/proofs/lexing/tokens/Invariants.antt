use Rattle.std.proofs.Common.{length}
use Rattle.java_tokens.specs.TokensShown.{shown_tokens}
use Rattle.java_tokens.specs.TokenReading.{HasRead}
use Rattle.java_tokens.proofs.lexing.tokens.Given as goal

abbrev pub invariant-tokens : goal.invariant-tokens
invariant-tokens l = HasRead l.fn.chars (shown_tokens l.tokens.items) l.reader

abbrev pub decreases-tokens : goal.decreases-tokens
decreases-tokens l = length l.reader.rest.now
