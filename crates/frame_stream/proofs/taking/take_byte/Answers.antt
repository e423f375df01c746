use Rattle.std.proofs.Common.{ℕ, ◌-◌, List, length, take, refl, sym, ap, subst, ◌∙◌}
use Rattle.frame_reader.specs.Stages.{IsWholeFrame}
use Rattle.frame_stream.specs.Streams.{pending}
use Rattle.frame_stream.proofs.StreamsLemmas.{stays_bad, from_begun, from_whole, front_is_begun, pending_is_begun}
use Rattle.frame_stream.proofs.taking.take_byte.Goals as goal

pub without_last-requires : goal.without_last-requires
without_last-requires c = record { whole = subst IsWholeFrame (sym c.bytes.ensures) c.in-Whole.ensures.frame }

pub take_next-requires-in-Ok : goal.take_next-requires-in-Ok
take_next-requires-in-Ok c =
    record { begun = front_is_begun c.args.scanner.now c.in-Ok.front c.in-Whole.ensures.frame (c.in-Ok.ensures ∙ ap (λ (bytes : List ℕ). take (length bytes - 1) bytes) c.bytes.ensures) }

pub returns-in-Bad : goal.returns-in-Bad
returns-in-Bad c = stays_bad c.args.scanner.now c.args.byte c.in-Bad.place c.in-Bad.kind c.found.result c.found.ensures.found c.in-Bad.is

pub returns-in-Begun : goal.returns-in-Begun
returns-in-Begun c = from_begun c.take_next.result c.args.scanner.now (pending c.take_next.new.scanner) c.args.byte (sym c.found.ensures.found ∙ c.in-Begun.is) c.take_next.ensures

pub returns-in-Ok : goal.returns-in-Ok
returns-in-Ok c =
    from_whole c.take_next-in-Ok.result c.args.scanner.now c.in-Ok.front (pending c.take_next-in-Ok.new.scanner) c.args.byte c.in-Whole.ensures.frame
    (c.in-Ok.ensures ∙ ap (λ (bytes : List ℕ). take (length bytes - 1) bytes) c.bytes.ensures) c.take_next-in-Ok.ensures

pub returns-in-Err : goal.returns-in-Err
returns-in-Err c = (pending_is_begun c.args.scanner.now c.in-Whole.ensures.frame, refl)
