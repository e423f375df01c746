use Rattle.frame_stream.proofs.Pieces.{piece_not_taken, piece_goes_on, piece_turns_bad, piece_given, piece_not_given}
use Rattle.frame_stream.proofs.taking.take_front.Goals as goal

pub returns-in-Err-clause-comes : goal.returns-in-Err-clause-comes
returns-in-Err-clause-comes c = piece_not_taken c.in-Err.interrupted c.args.bytes.now c.args.scanner.now c.feed.new.self c.in-Err.ensures.bytes c.in-Err.ensures.up_to

pub returns-in-Begun-clause-comes : goal.returns-in-Begun-clause-comes
returns-in-Begun-clause-comes c =
    piece_goes_on c.in-Ok.taken c.args.bytes.now c.args.scanner.now c.feed.new.self c.requires.begun c.in-Ok.ensures.within c.in-Ok.ensures.bytes c.in-Ok.ensures.up_to
    c.found.result c.found.ensures.found c.in-Begun.is

pub returns-in-Bad-clause-comes : goal.returns-in-Bad-clause-comes
returns-in-Bad-clause-comes c =
    piece_turns_bad c.in-Ok.taken c.args.bytes.now c.args.scanner.now c.feed.new.self c.requires.begun c.in-Ok.ensures.within c.in-Ok.ensures.bytes c.in-Ok.ensures.up_to
    c.in-Bad.place c.in-Bad.kind c.found.result c.found.ensures.found c.in-Bad.is

pub returns-in-Ok-give-clause-comes : goal.returns-in-Ok-give-clause-comes
returns-in-Ok-give-clause-comes c =
    piece_given c.in-Ok.taken c.args.bytes.now c.args.scanner.now c.feed.new.self c.requires.begun c.in-Ok.ensures.within c.in-Ok.ensures.bytes c.in-Ok.ensures.up_to
    c.give.new.scanner c.in-Ok-give.frame c.in-Whole.ensures.frame c.in-Ok-give.ensures.frame c.in-Ok-give.ensures.stands c.in-Ok-give.ensures.ok

pub returns-in-Err-give-clause-comes : goal.returns-in-Err-give-clause-comes
returns-in-Err-give-clause-comes c =
    piece_not_given c.in-Ok.taken c.args.bytes.now c.args.scanner.now c.feed.new.self c.requires.begun c.in-Ok.ensures.within c.in-Ok.ensures.bytes c.in-Ok.ensures.up_to
    c.give.new.scanner c.saturating_sub.result c.in-Whole.ensures.frame c.in-Err-give.ensures.err c.saturating_sub.ensures
