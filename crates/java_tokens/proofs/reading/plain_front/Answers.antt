use Rattle.std.proofs.Common.{◌≡◌, ◌+◌, ◌++◌, length, take, drop, ap, sym, ◌∙◌, arith, append_assoc, length-append}
use Rattle.std.proofs.lemmas.List.{take-append-drop, length-take-le}
use Rattle.java_tokens.proofs.CharactersLemmas.{plain_before}
use Rattle.java_tokens.proofs.reading.plain_front.Goals as goal

pub returns-in-Some-clause-front : goal.returns-in-Some-clause-front
returns-in-Some-clause-front c =
    let bytes = c.args.bytes.now in
    let found = c.longest_text.ensures.front in
    (found.0 ++ drop c.in-Some.end bytes, sym (take-append-drop c.in-Some.end bytes) ∙ ap (λ t. t ++ drop c.in-Some.end bytes) found.1 ∙ append_assoc c.longest_text.result.now found.0 (drop c.in-Some.end bytes))

pub returns-in-Some-clause-plain : goal.returns-in-Some-clause-plain
returns-in-Some-clause-plain c =
    let bytes = c.args.bytes.now in
    let end = c.in-Some.end in
    let text = c.longest_text.result.now in
    let found = c.longest_text.ensures.front in
    let split : bytes ≡ text ++ (found.0 ++ drop end bytes) = sym (take-append-drop end bytes) ∙ ap (λ t. t ++ drop end bytes) found.1 ∙ append_assoc text found.0 (drop end bytes) in
    let long : length (take end bytes) ≡ length text + length found.0 = ap length found.1 ∙ length-append text found.0 in
    let short : length (take end bytes) ≡ end = length-take-le end bytes (omega (arith, c.in-Some.ensures.0.high)) in
    plain_before bytes text (found.0 ++ drop end bytes) end split (omega (arith, long, short)) c.in-Some.ensures.0.before

pub returns-in-None-clause-plain : goal.returns-in-None-clause-plain
returns-in-None-clause-plain c =
    let bytes = c.args.bytes.now in
    let text = c.longest_text-in-None.result.now in
    let found = c.longest_text-in-None.ensures.front in
    plain_before bytes text found.0 (length bytes) found.1 (omega (arith, ap length found.1, length-append text found.0)) c.in-None.ensures
