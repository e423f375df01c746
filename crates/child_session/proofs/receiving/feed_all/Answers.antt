use Rattle.child_session.proofs.Feeding.{frame_ends, bad_ends}
use Rattle.child_session.proofs.receiving.feed_all.Goals as goal

pub returns-in-Ok-Some : goal.returns-in-Ok-Some
returns-in-Ok-Some c =
    let front = rw c.in-Ok-Some.field-0-is at c.in-Ok-Some.ensures in
    frame_ends c.args.reader.now c.args.bytes.now front.taken c.feed_front.new.reader c.requires.begun c.in-Ok-Some.frame c.requires.next front.comes

pub returns-in-Err-Bad : goal.returns-in-Err-Bad
returns-in-Err-Bad c =
    let front = rw c.in-Err-Bad.field-0-is at c.in-Err-Bad.ensures in
    bad_ends c.args.reader.now c.args.bytes.now front.taken c.feed_front.new.reader c.requires.begun _ _ front.comes
