use Rattle.std.proofs.Common.{◌-◌, length, sym, ap, ◌∙◌, arith}
use Rattle.std.proofs.lemmas.List.{length-take}
use Rattle.frame_stream.proofs.StreamsLemmas.{pending_begun, pending_bad, pending_whole}
use Rattle.frame_stream.proofs.taking.waiting_in.Goals as goal

pub returns-in-Whole : goal.returns-in-Whole
returns-in-Whole c =
    let bytes = c.args.scanner.now in
    omega (arith, c.saturating_sub.ensures, c.waiting.ensures, ap length (pending_whole bytes c.in-Whole.ensures.frame), length-take (length bytes - 1) bytes)

pub returns-in-Begun : goal.returns-in-Begun
returns-in-Begun c = c.waiting-in-Begun.ensures ∙ ap length (sym (pending_begun c.args.scanner.now (sym c.found.ensures.found ∙ c.in-Begun.is)))

pub returns-in-Bad : goal.returns-in-Bad
returns-in-Bad c = c.waiting-in-Bad.ensures ∙ ap length (sym (pending_bad c.args.scanner.now c.in-Bad.place c.in-Bad.kind (sym c.found.ensures.found ∙ c.in-Bad.is)))

pub overflow_cast-result : goal.overflow_cast-result
overflow_cast-result c =
    let bytes = c.args.scanner.now in
    omega (arith, c.requires.short, c.saturating_sub.ensures, c.waiting.ensures, ap length (pending_whole bytes c.in-Whole.ensures.frame), length-take (length bytes - 1) bytes)

pub overflow_cast-result-in-Begun : goal.overflow_cast-result-in-Begun
overflow_cast-result-in-Begun c = omega (arith, c.requires.short, c.waiting-in-Begun.ensures, ap length (pending_begun c.args.scanner.now (sym c.found.ensures.found ∙ c.in-Begun.is)))

pub overflow_cast-result-in-Bad : goal.overflow_cast-result-in-Bad
overflow_cast-result-in-Bad c = omega (arith, c.requires.short, c.waiting-in-Bad.ensures, ap length (pending_bad c.args.scanner.now c.in-Bad.place c.in-Bad.kind (sym c.found.ensures.found ∙ c.in-Bad.is)))
