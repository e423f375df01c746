-- What a child answers to any frame: a frame that is sent, or the breach of the tag.
use Rattle.std.proofs.Common.{◌≡◌, Bool, true, false, Result, Ok, Err, refl, sym, subst}
use Rattle.wire_frames.specs.declared.frame.Frame.{Frame}
use Rattle.wire_frames.specs.declared.frame.Frame.TheVariants as frames
use Rattle.wire_frames.specs.Limits.{is_too_large, nesting}
use Rattle.wire_frames.specs.Spellings.{fields_spelled}
use Rattle.frame_breaches.specs.declared.breach.Breach.{Breach}
use Rattle.frame_breaches.specs.Breaches.{stray}
use Rattle.local_procs.specs.declared.local.Local.{Local}
use Rattle.local_procs.specs.declared.local.Local.TheVariants.{Builder, Checker, Chain, Registry}
use Rattle.local_procs.specs.Plans.{Plan, Ends, Sends, nothing}
use Rattle.local_procs.specs.Says.{At, Unbegun, Rests, Waits, Answer, hello_of, goes_on, step}
use Rattle.local_procs.proofs.Sending.{kept_sent, small_sent, large_sent}
use Rattle.local_children.specs.Streams.{has_begun}

hello_small : (local : Local) → is_too_large (frames.Hello (hello_of local)) ≡ false
unfolding is_too_large nesting fields_spelled
hello_small Builder = refl
hello_small Checker = refl
hello_small Chain = refl
hello_small Registry = refl

done_small : (claimed : Bool) → is_too_large (frames.Done claimed) ≡ false
unfolding is_too_large nesting fields_spelled
done_small claimed = refl

-- what a frame is answered: once a frame has come, and by one that is not too large; or it is the breach of its tag
abbrev pub AnswersWell : Frame → Result Answer Breach → Type 0
AnswersWell frame (Ok answer) = (has_begun answer.1 ≡ true) × (is_too_large answer.0 ≡ false)
AnswersWell frame (Err breach) = breach ≡ stray frame

-- what is sent of a plan
goes_well : (local : Local) (frame : Frame) (plan : Plan) → AnswersWell frame (goes_on local plan)
goes_well local frame (Ends kept) = rw (kept_sent kept) (refl, done_small _)
goes_well local frame (Sends sent go) = by_size (goes_well local frame (go nothing)) (is_too_large sent) refl
  where
    by_size : AnswersWell frame (goes_on local (go nothing)) → (large : Bool) → is_too_large sent ≡ large → AnswersWell frame (goes_on local (Sends sent go))
    by_size later true is = rw (large_sent sent go is) later
    by_size later false is = rw (small_sent sent go is) (refl, is)

pub answers_well : (local : Local) (at : At) (frame : Frame) → AnswersWell frame (step local at frame)
unfolding step
answers_well local Unbegun (frames.Init init) = (refl, hello_small local)
answers_well local Unbegun (frames.Round number over error offered roots) = refl
answers_well local Unbegun (frames.Reply reply) = refl
answers_well local Unbegun (frames.Hello hello) = refl
answers_well local Unbegun (frames.Done claimed) = refl
answers_well local Unbegun (frames.Create creation) = refl
answers_well local Unbegun (frames.Message message) = refl
answers_well local Unbegun (frames.Ask question) = refl
answers_well local (Rests kept) (frames.Init init) = refl
answers_well local (Rests kept) (frames.Round number over error offered roots) = goes_well local (frames.Round number over error offered roots) _
answers_well local (Rests kept) (frames.Reply reply) = refl
answers_well local (Rests kept) (frames.Hello hello) = refl
answers_well local (Rests kept) (frames.Done claimed) = refl
answers_well local (Rests kept) (frames.Create creation) = refl
answers_well local (Rests kept) (frames.Message message) = refl
answers_well local (Rests kept) (frames.Ask question) = refl
answers_well local (Waits go) (frames.Init init) = refl
answers_well local (Waits go) (frames.Round number over error offered roots) = refl
answers_well local (Waits go) (frames.Reply reply) = goes_well local (frames.Reply reply) (go reply)
answers_well local (Waits go) (frames.Hello hello) = refl
answers_well local (Waits go) (frames.Done claimed) = refl
answers_well local (Waits go) (frames.Create creation) = refl
answers_well local (Waits go) (frames.Message message) = refl
answers_well local (Waits go) (frames.Ask question) = refl

-- ---- of an answer that is known

well_of : (local : Local) (at : At) (frame : Frame) (result : Result Answer Breach) → result ≡ step local at frame → AnswersWell frame result
well_of local at frame result is = subst (AnswersWell frame) (sym is) (answers_well local at frame)

pub answer_fits : (local : Local) (at : At) (frame : Frame) (answer : Answer) → Ok answer ≡ step local at frame → is_too_large answer.0 ≡ false
answer_fits local at frame answer is = (well_of local at frame (Ok answer) is).1

pub answer_begins : (local : Local) (at : At) (frame : Frame) (answer : Answer) → Ok answer ≡ step local at frame → has_begun answer.1 ≡ true
answer_begins local at frame answer is = (well_of local at frame (Ok answer) is).0
