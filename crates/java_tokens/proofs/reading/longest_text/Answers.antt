use Rattle.std.proofs.Common.{◌≡◌, ◌++◌, length, take, drop, ap, sym, ◌∙◌, arith, rules}
use Rattle.std.proofs.lemmas.List.{take-append-drop, length-take-le}
use Rattle.std.specs.Str.{IsValidUpTo}
use Rattle.java_tokens.proofs.reading.longest_text.Goals as goal

pub returns-in-Err-clause-front : goal.returns-in-Err-clause-front
returns-in-Err-clause-front c =
    let bytes = c.args.bytes.now in
    let n = c.valid_up_to.result in
    let taken : c.unwrap.result.now ≡ take n bytes = search rules in
    (drop n bytes, sym (take-append-drop n bytes) ∙ ap (λ t. t ++ drop n bytes) (sym taken))

pub returns-in-Err-clause-longest : goal.returns-in-Err-clause-longest
returns-in-Err-clause-longest c = λ m more within utf8.
    let bytes = c.args.bytes.now in
    let n = c.valid_up_to.result in
    let taken : c.unwrap.result.now ≡ take n bytes = search rules in
    let valid : IsValidUpTo bytes n = search rules in
    let long : length c.unwrap.result.now ≡ n = ap length taken ∙ length-take-le n bytes (omega (arith, valid.short)) in
    valid.longest m (omega (arith, more, long)) utf8
