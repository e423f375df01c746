use Rattle.std.proofs.Common.{◌≡◌, ◌+◌, ◌-◌, ◌==◌, ◌≤◌, length, take, drop, take_while, MatchOption, ap, sym, subst, ◌∙◌, arith, length-append}
use Rattle.std.proofs.lemmas.List.{take_rest}
use Rattle.java_tokens.specs.Escapes.{IsHex, NotHex, HasEscape, NoEscape}
use Rattle.java_tokens.proofs.EscapesLemmas.{us_before, us_taken, digits_of, escape_read, taken_front}
use Rattle.java_tokens.proofs.escapes.read_escape.Goals as goal

pub returns-then-digits-lt4-clause-escape : goal.returns-then-digits-lt4-clause-escape
returns-then-digits-lt4-clause-escape c = λ width value has.
    let bytes = c.args.bytes.now in
    let p = digits_of bytes width value has in
    let more : c.leading_us-more.result ≡ us_before (drop 2 bytes) = c.leading_us-more.ensures.count ∙ ap (λ xs. length (take_while (λ b. b == 117) xs)) (take_rest bytes 2) ∙ us_taken (drop 2 bytes) in
    let long : length (drop (2 + us_before (drop 2 bytes)) bytes) ≡ length p.digits + length p.rest = ap length p.left ∙ length-append p.digits p.rest in
    omega (arith, ap length (take_rest bytes (2 + c.leading_us-more.result)), ap (λ n. length (drop (2 + n) bytes)) more, long, p.four)

pub returns-in_err-value-clause-escape : goal.returns-in_err-value-clause-escape
returns-in_err-value-clause-escape c =
    let bytes = c.args.bytes.now in
    let more : c.leading_us-more.result ≡ us_before (drop 2 bytes) = c.leading_us-more.ensures.count ∙ ap (λ xs. length (take_while (λ b. b == 117) xs)) (take_rest bytes 2) ∙ us_taken (drop 2 bytes) in
    let cut : take 4 (take (length bytes - (2 + c.leading_us-more.result)) (drop (2 + c.leading_us-more.result) bytes)) ≡ take 4 (drop (2 + us_before (drop 2 bytes)) bytes) =
    ap (take 4) (take_rest bytes (2 + c.leading_us-more.result) ∙ ap (λ n. drop (2 + n) bytes) more) in
    let none : NotHex (take 4 (drop (2 + us_before (drop 2 bytes)) bytes)) = subst NotHex cut c.in_err-value.ensures.digits in
    subst (λ o. MatchOption o (NoEscape bytes) (λ e. HasEscape bytes e.width e.value)) (sym c.from_residual.ensures) (λ width value has.
    let p = digits_of bytes width value has in
    none value (subst (λ ds. IsHex ds value) (taken_front p.digits p.rest p.four ∙ ap (take 4) (sym p.left)) p.hex))

pub returns-clause-escape : goal.returns-clause-escape
returns-clause-escape c =
    let bytes = c.args.bytes.now in
    let more : c.leading_us-more.result ≡ us_before (drop 2 bytes) = c.leading_us-more.ensures.count ∙ ap (λ xs. length (take_while (λ b. b == 117) xs)) (take_rest bytes 2) ∙ us_taken (drop 2 bytes) in
    let cut : take 4 (take (length bytes - (2 + c.leading_us-more.result)) (drop (2 + c.leading_us-more.result) bytes)) ≡ take 4 (drop (2 + us_before (drop 2 bytes)) bytes) =
    ap (take 4) (take_rest bytes (2 + c.leading_us-more.result) ∙ ap (λ n. drop (2 + n) bytes) more) in
    let hex : IsHex (take 4 (drop (2 + us_before (drop 2 bytes)) bytes)) c.in_ok-value.value = subst (λ ds. IsHex ds c.in_ok-value.value) cut c.in_ok-value.ensures.digits in
    let four : 4 ≤ length (drop (2 + us_before (drop 2 bytes)) bytes) = omega (arith, ap length (take_rest bytes (2 + c.leading_us-more.result)), ap (λ n. length (drop (2 + n) bytes)) more) in
    subst (λ w. HasEscape bytes w c.in_ok-value.value) (ap (λ n. n + 6) (sym more)) (escape_read bytes c.in_ok-value.value c.if-bytes-lt2.false c.if-bytes-ne92.false c.if-bytes-ne117.false four hex)
