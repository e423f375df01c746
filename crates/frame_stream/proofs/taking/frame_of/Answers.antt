use Rattle.std.proofs.Common.{arith}
use Rattle.frame_reader.proofs.Wanted.{frame_is_long}
use Rattle.frame_stream.proofs.StreamsLemmas.{frame_is, frame_stands, frame_is_there}
use Rattle.frame_stream.proofs.taking.frame_of.Goals as goal

pub slice_bounds-decode-count : goal.slice_bounds-decode-count
slice_bounds-decode-count c = frame_is_long c.args.bytes.now c.requires.whole

pub slice_bounds-decode-start : goal.slice_bounds-decode-start
slice_bounds-decode-start c = frame_is_long c.args.bytes.now c.requires.whole

pub unreachable-requires : goal.unreachable-requires
unreachable-requires c = frame_is_there c.args.bytes.now c.in_ok-frame.field-0 (λ i. omega (arith, c.type_inv.bytes i)) c.requires.whole c.in-None.is c.in_ok-frame.ensures.none

pub returns-clause-frame : goal.returns-clause-frame
returns-clause-frame c = frame_is c.args.bytes.now c.in_ok-frame.field-0 c.in-Some.frame (λ i. omega (arith, c.type_inv.bytes i)) c.requires.whole c.in-Some.is c.in_ok-frame.ensures.found

pub returns-clause-stands : goal.returns-clause-stands
returns-clause-stands c = frame_stands c.args.bytes.now c.in_ok-frame.field-0 c.in-Some.frame (λ i. omega (arith, c.type_inv.bytes i)) c.requires.whole c.in-Some.is c.in_ok-frame.ensures.exact
