use Rattle.std.proofs.Common.{sym, ap, ◌∙◌}
use Rattle.frame_reader.specs.Stages.{wanted_in}
use Rattle.frame_stream.proofs.StreamsLemmas.{pending_begun, pending_bad, wanted_whole}
use Rattle.frame_stream.proofs.taking.wanted_behind.Goals as goal

pub returns-in-Whole : goal.returns-in-Whole
returns-in-Whole c = wanted_whole c.args.scanner.now c.in-Whole.ensures.frame

pub returns-in-Begun : goal.returns-in-Begun
returns-in-Begun c = c.wanted.ensures ∙ ap wanted_in (sym (pending_begun c.args.scanner.now (sym c.found.ensures.found ∙ c.in-Begun.is)))

pub returns-in-Bad : goal.returns-in-Bad
returns-in-Bad c = c.wanted-in-Bad.ensures ∙ ap wanted_in (sym (pending_bad c.args.scanner.now c.in-Bad.place c.in-Bad.kind (sym c.found.ensures.found ∙ c.in-Bad.is)))
