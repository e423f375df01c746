use Rattle.std.proofs.Common.{sym, ◌∙◌}
use Rattle.wire_frames.proofs.Again.{read_again}
use Rattle.wire_frames.proofs.LimitsLemmas.{too_deep, not_too_deep}
use Rattle.wire_frames.proofs.writing.encode.Goals as goal

pub returns-then-nesting-clause-large : goal.returns-then-nesting-clause-large
returns-then-nesting-clause-large c = λ large. too_deep c.args.frame.now c.nesting.result c.nesting.ensures c.if-nesting.true

pub returns-clause-large : goal.returns-clause-large
returns-clause-large c = λ large. not_too_deep c.args.frame.now c.nesting.result c.nesting.ensures c.if-nesting.false ∙ c.encoded.ensures.large large

pub returns-clause-past : goal.returns-clause-past
returns-clause-past c = λ large. c.encoded.ensures.past (sym (not_too_deep c.args.frame.now c.nesting.result c.nesting.ensures c.if-nesting.false) ∙ large)

pub returns-clause-again : goal.returns-clause-again
returns-clause-again c = λ fits. read_again c.args.frame.now c.encoded.result c.encoded.ensures.spelled c.encoded.ensures.fits fits
