use Rattle.std.proofs.Common.{◌≡◌, ◌-◌, ◌≤◌, length}
use Rattle.apt_outside.specs.Count.{Told}
use Rattle.apt_outside.specs.Child.{Attends}
use Rattle.frame_reader.specs.declared.found.Found.TheVariants as founds
use Rattle.frame_reader.specs.Stages.{found_in}
use Rattle.frame_stream.specs.Streams.{most_bytes}
use Rattle.child_session.specs.Talk.{TakesBytes}
use Rattle.child_session.proofs.receiving.read_frame.Given as goal

-- the bytes so far were taken, and they begin a frame
abbrev pub invariant-loop-reader : goal.invariant-loop-reader
invariant-loop-reader g l =
    let C = g.C.Children in
    record {
      later : C.faults l.fn.children ≤ C.faults l.children;
      starts : (C.state l.children).starts ≡ (C.state l.fn.children).starts;
      live : (C.state l.children).live ≡ (C.state l.fn.children).live;
      begun : found_in l.reader ≡ founds.Begun;
      attends : Told C.tells (Attends l.child (C.state l.fn.children) (C.state l.children));
      taken : Told C.tells (TakesBytes l.child (C.state l.fn.children) (C.state l.children) l.reader);
    }

abbrev pub decreases-loop-reader : goal.decreases-loop-reader
decreases-loop-reader g l = most_bytes - length l.reader
