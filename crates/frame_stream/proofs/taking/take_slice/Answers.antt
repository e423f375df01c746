use Rattle.std.proofs.Common.{ℕ, ◌-◌, List, length, take, sym, ap, subst, ◌∙◌}
use Rattle.frame_reader.specs.Stages.{IsWholeFrame}
use Rattle.frame_stream.specs.Streams.{pending}
use Rattle.frame_stream.proofs.StreamsLemmas.{front_is_begun}
use Rattle.frame_stream.proofs.Pieces.{piece_stays_bad, piece_from_begun, piece_from_whole, nothing_fed, nothing_taken}
use Rattle.frame_stream.proofs.taking.take_slice.Goals as goal

pub without_last-requires : goal.without_last-requires
without_last-requires c = record { whole = subst IsWholeFrame (sym c.bytes.ensures) c.in-Whole.ensures.frame }

pub take_front-requires-in-Ok : goal.take_front-requires-in-Ok
take_front-requires-in-Ok c =
    record { begun = front_is_begun c.args.scanner.now c.in-Ok.begun c.in-Whole.ensures.frame (c.in-Ok.ensures ∙ ap (λ (bytes : List ℕ). take (length bytes - 1) bytes) c.bytes.ensures) }

pub returns-in-Bad-clause-comes : goal.returns-in-Bad-clause-comes
returns-in-Bad-clause-comes c = piece_stays_bad c.args.scanner.now c.args.bytes.now c.in-Bad.place c.in-Bad.kind c.found.result c.found.ensures.found c.in-Bad.is

pub returns-in-Begun-clause-comes : goal.returns-in-Begun-clause-comes
returns-in-Begun-clause-comes c =
    piece_from_begun c.take_front.result.answer c.take_front.result.taken c.args.bytes.now c.args.scanner.now (pending c.take_front.new.scanner)
    (sym c.found.ensures.found ∙ c.in-Begun.is) c.take_front.ensures.comes

pub returns-then-is_empty-clause-comes : goal.returns-then-is_empty-clause-comes
returns-then-is_empty-clause-comes c = nothing_fed c.args.scanner.now c.args.bytes.now c.in-Whole.ensures.frame (sym c.is_empty.ensures ∙ c.if-is_empty.true)

pub returns-in-Ok-clause-comes : goal.returns-in-Ok-clause-comes
returns-in-Ok-clause-comes c =
    piece_from_whole c.take_front-in-Ok.result.answer c.take_front-in-Ok.result.taken c.args.bytes.now c.args.scanner.now c.in-Ok.begun (pending c.take_front-in-Ok.new.scanner)
    c.in-Whole.ensures.frame (c.in-Ok.ensures ∙ ap (λ (bytes : List ℕ). take (length bytes - 1) bytes) c.bytes.ensures) c.take_front-in-Ok.ensures.comes

pub returns-in-Err-clause-comes : goal.returns-in-Err-clause-comes
returns-in-Err-clause-comes c = nothing_taken c.args.scanner.now c.args.bytes.now c.in-Whole.ensures.frame (sym c.is_empty.ensures ∙ c.if-is_empty.false)
