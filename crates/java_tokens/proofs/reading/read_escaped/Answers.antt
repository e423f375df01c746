use Rattle.std.proofs.Common.{MatchOption, sym, subst}
use Rattle.java_tokens.specs.Characters.{HasChar, HasNoChar}
use Rattle.java_tokens.proofs.CharactersLemmas.{no_escape, escape_char}
use Rattle.java_tokens.proofs.reading.read_escaped.Goals as goal

pub returns-in_err-first-clause-char : goal.returns-in_err-first-clause-char
returns-in_err-first-clause-char c =
    subst (λ o. MatchOption o (HasNoChar 0 c.args.bytes.now) (λ r. HasChar 0 c.args.bytes.now r.width r.code)) (sym c.from_residual.ensures) (no_escape c.args.bytes.now c.requires c.in_err-first.ensures.escape)

pub returns-in-Some-clause-char : goal.returns-in-Some-clause-char
returns-in-Some-clause-char c =
    let is = c.in-Some.ensures.value in
    subst (HasChar 0 c.args.bytes.now c.in_ok-first.first.width) (sym is.1) (escape_char c.args.bytes.now c.requires c.in_ok-first.first.width c.in_ok-first.first.value c.in_ok-first.ensures.escape is.0)
