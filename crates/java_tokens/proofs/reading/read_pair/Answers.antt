use Rattle.std.proofs.Common.{◌≡◌, ◌+◌, drop, MatchOption, sym, subst, arith, rules}
use Rattle.std.proofs.lemmas.List.{take_rest}
use Rattle.java_tokens.specs.Escapes.{HasEscape, NoEscape}
use Rattle.java_tokens.specs.Characters.{HasChar, HasNoChar, IsHigh, IsLow, joined}
use Rattle.java_tokens.proofs.CharactersLemmas.{no_pair, pair_char, surrogate}
use Rattle.java_tokens.proofs.EscapesLemmas.{one_escape}
use Rattle.java_tokens.proofs.reading.read_pair.Goals as goal
use Rattle.java_tokens.proofs.reading.read_pair.Goals.{then-second-lt56320-via-then-second-lt56320, then-second-lt56320-via-else-second-lt56320+then-second-ge57344}

pub returns-then-first-ge56320-clause-char : goal.returns-then-first-ge56320-clause-char
returns-then-first-ge56320-clause-char c =
    no_pair c.args.bytes.now c.requires.begins c.args.first.width c.args.first.value c.requires.first (surrogate c.args.first.value c.requires.value.0 c.requires.value.1)
    (λ sw sv has high low. omega (arith, high.1, c.if-first-ge56320.true))

pub returns-in_err-second-clause-char : goal.returns-in_err-second-clause-char
returns-in_err-second-clause-char c =
    let bytes = c.args.bytes.now in
    let none : NoEscape (drop c.args.first.width bytes) = subst NoEscape (take_rest bytes c.args.first.width) c.in_err-second.ensures.escape in
    subst (λ o. MatchOption o (HasNoChar 0 bytes) (λ r. HasChar 0 bytes r.width r.code)) (sym c.from_residual.ensures)
    (no_pair bytes c.requires.begins c.args.first.width c.args.first.value c.requires.first (surrogate c.args.first.value c.requires.value.0 c.requires.value.1) (λ sw sv has high low. none sw sv has))

pub returns-then-second-lt56320-clause-char : goal.returns-then-second-lt56320-clause-char
returns-then-second-lt56320-clause-char c =
    let bytes = c.args.bytes.now in
    let found : HasEscape (drop c.args.first.width bytes) c.in_ok-second.second.width c.in_ok-second.second.value = subst (λ b. HasEscape b c.in_ok-second.second.width c.in_ok-second.second.value) (take_rest bytes c.args.first.width) c.in_ok-second.ensures.escape in
    no_pair bytes c.requires.begins c.args.first.width c.args.first.value c.requires.first (surrogate c.args.first.value c.requires.value.0 c.requires.value.1)
    (λ sw sv has high low.
    let same = (one_escape (drop c.args.first.width bytes) sw sv c.in_ok-second.second.width c.in_ok-second.second.value has found).1 in
    elim c.then-second-lt56320.branch [ then-second-lt56320-via-then-second-lt56320 w ↦ omega (arith, low.0, same) | then-second-lt56320-via-else-second-lt56320+then-second-ge57344 w ↦ omega (arith, low.1, same) ])

pub returns-clause-char : goal.returns-clause-char
returns-clause-char c =
    let bytes = c.args.bytes.now in
    let found : HasEscape (drop c.args.first.width bytes) c.in_ok-second.second.width c.in_ok-second.second.value = subst (λ b. HasEscape b c.in_ok-second.second.width c.in_ok-second.second.value) (take_rest bytes c.args.first.width) c.in_ok-second.ensures.escape in
    let high : IsHigh c.args.first.value = (c.requires.value.0, search rules) in
    let low : IsLow c.in_ok-second.second.value = (search rules, search rules) in
    let code : joined c.args.first.value c.in_ok-second.second.value ≡ c.in_ok-code.code = search rules in
    subst (HasChar 0 bytes (c.args.first.width + c.in_ok-second.second.width)) code
    (pair_char bytes c.requires.begins c.args.first.width c.args.first.value c.in_ok-second.second.width c.in_ok-second.second.value c.requires.first found high low)
