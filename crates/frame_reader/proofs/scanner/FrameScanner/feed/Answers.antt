use Rattle.std.proofs.lemmas.List.{take_rest}
use Rattle.frame_reader.proofs.Scanning.{front_more}
use Rattle.frame_reader.proofs.scanner.FrameScanner.feed.Goals as goal

pub loop-taken-preserved : goal.loop-taken-preserved
loop-taken-preserved c =
    let piece = c.args.piece.now in
    let taken = c.loop-taken.taken in
    let t = front_more taken c.in-Ok.more piece _ c.args.self.now c.loop-taken.self c.take_front.new.self c.loop-taken.invariant.within (take_rest piece taken) c.loop-taken.invariant.bytes c.in-Ok.ensures.ok in
    record { within = t.0; bytes = t.1; before = t.2 }
