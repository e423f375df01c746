use Rattle.std.proofs.Common.{◌≡◌, ◌≤◌, List, length, option_map}
use denote.Text.{Utf8}
use denote.Shadow.{shadow}
use Rattle.java_tokens.specs.Tokens.{Lexeme}
use Rattle.java_tokens.specs.TokenReading.{HasRead}
use Rattle.java_tokens.proofs.TokensGathered.{IsBehind}
use Rattle.java_tokens.proofs.token_reader.TokenReader.next.Given as goal

abbrev pub invariant-separators : goal.invariant-separators
invariant-separators l = record {
  utf8 : shadow (Utf8 l.rest);
  same : l.self ≡ l.fn.self;
  left : length l.rest ≤ length l.fn.self.rest.now;
  behind : (ts : List Lexeme) → HasRead l.fn.self.chars.now ts l.fn.self → IsBehind l.fn.self.chars.now ts l.rest l.place.width l.place.line l.place.after_return (option_map (λ d. d.now) l.doc);
}

abbrev pub decreases-separators : goal.decreases-separators
decreases-separators l = length l.rest
