-- What a child is told of what was given, and of a reply by its size.
use Rattle.std.proofs.Common.{◌≡◌, ℕ, Bool, true, false, List, Option, None, Some, Ok, Err, sym, ap, ◌∙◌, if◌then◌else◌}
use Rattle.child_questions.specs.Verdicts.{Given, Gives}
use Rattle.child_questions.specs.QueryFault.{QueryFault}
use Rattle.child_questions.specs.QueryFault.TheVariants as fault
use Rattle.wire_frames.specs.declared.frame.Frame.{Frame}
use Rattle.wire_frames.specs.declared.frame.Frame.TheVariants as frames
use Rattle.wire_frames.specs.declared.reply.Refused.TheVariants as refused
use Rattle.wire_frames.specs.declared.reply.Reply.{Reply}
use Rattle.wire_frames.specs.declared.reply.Reply.TheVariants as reply
use Rattle.wire_frames.specs.declared.writing.FrameFault.TheVariants as frame_fault
use Rattle.wire_frames.specs.Frames.{spelling}
use Rattle.wire_frames.specs.Limits.{is_too_large}
use Rattle.wire_frames.proofs.LimitsLemmas.{is_sent}
use Rattle.child_answers.specs.Replies.{Answer, refusal_of, reply_by, unless_too_large}

-- ---- what was given

pub told-given : (v : Answer) (r : Reply) → v ≡ Given r → r ≡ reply_by v
told-given v r e = sym (ap reply_by e)

abbrev reply_or : Reply → Option Reply → Reply
reply_or other None = other
reply_or other (Some r) = r

told-by : (told : Reply) (v : Answer) (r : Reply) → Some r ≡ Some told → reply_by v ≡ r → told ≡ reply_by v
told-by told v r h e = let first : told ≡ r = sym (ap (reply_or told) h) in first ∙ sym e

pub told-refused : (f : QueryFault) (told : Reply) (v : Answer) → Gives {A = Reply} (Err f) v → refusal_of f ≡ Some told → told ≡ reply_by v
told-refused fault.NoSuch told v e h = told-by told v (reply.Refused refused.NoSuch) h (ap reply_by e)
told-refused fault.WrongKind told v e h = told-by told v (reply.Refused refused.WrongKind) h (ap reply_by e)
told-refused fault.TooDeep told v e h = told-by told v (reply.Refused refused.TooDeep) h (ap reply_by e)
told-refused fault.Memory told v e h = absurd cc

pub ruleset telling = (told-given, told-refused)

-- ---- its size

abbrev reply_of_frame : Reply → Frame → Reply
reply_of_frame other (frames.Reply r) = r
reply_of_frame other _ = other

pub large-refused : (r : Reply) → is_too_large (frames.Reply r) ≡ true → reply.Refused refused.TooLarge ≡ unless_too_large r
large-refused r e = sym (ap (λ (large : Bool). if large then reply.Refused refused.TooLarge else r) e)

pub small-told : (r told : Reply) → is_too_large (frames.Reply r) ≡ false → frames.Reply r ≡ frames.Reply told → told ≡ unless_too_large r
small-told r told e same =
    let first : told ≡ r = sym (ap (reply_of_frame r) same) in
    let second : r ≡ unless_too_large r = sym (ap (λ (large : Bool). if large then reply.Refused refused.TooLarge else r) e) in
    first ∙ second

pub ruleset sizes = (large-refused, small-told)

-- ---- its bytes

pub spelled-small : (r : Reply) (bytes : List ℕ) → bytes ≡ spelling (frames.Reply r)
    → (is_too_large (frames.Reply r) ≡ true → Ok bytes ≡ Err frame_fault.TooLarge) → bytes ≡ spelling (frames.Reply (unless_too_large r))
spelled-small r bytes e past =
    let small : is_too_large (frames.Reply r) ≡ false = is_sent (is_too_large (frames.Reply r)) bytes frame_fault.TooLarge past in
    let same : r ≡ unless_too_large r = sym (ap (λ (large : Bool). if large then reply.Refused refused.TooLarge else r) small) in
    e ∙ ap (λ (x : Reply). spelling (frames.Reply x)) same

pub spelled-large : (r : Reply) (bytes : List ℕ) → bytes ≡ spelling (frames.Reply (reply.Refused refused.TooLarge))
    → is_too_large (frames.Reply r) ≡ true → bytes ≡ spelling (frames.Reply (unless_too_large r))
spelled-large r bytes e large = e ∙ ap (λ (x : Reply). spelling (frames.Reply x)) (large-refused r large)

pub ruleset spelled = (spelled-small, spelled-large)
