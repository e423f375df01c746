-- What a last turn comes to is due, and no fault of the children.
use Rattle.std.proofs.Common.{◌≡◌, ◌≤◌, ℕ, Bool, true, false, cond, Ok, Err, Result, IsErrOf, inl, inr, refl, sym, ap, ◌∙◌, subst}
use Rattle.apt_base.specs.declared.kinds.Claim.{Claim}
use Rattle.wire_frames.specs.declared.frame.Frame.TheVariants as frame
use Rattle.child_session.specs.declared.fault.SessionFault.{SessionFault}
use Rattle.child_session.specs.declared.fault.SessionFault.TheVariants.{Failed, Memory}
use Rattle.child_session.specs.declared.noted.Noted.{Noted}
use Rattle.child_session.specs.declared.request.Turn.{Turn}
use Rattle.child_session.specs.declared.request.Turn.TheVariants.{Ends, Differs, Asks, Leaves}
use Rattle.child_session.specs.declared.round.Answer.{Answer}
use Rattle.child_session.specs.declared.round.Showing.{Showing}
use Rattle.child_session.specs.Acts.{claimed_by, end_of}
use Rattle.child_session.specs.Faults.{HasReason}
use Rattle.child_session.specs.Notes.{answer_from}
use Rattle.child_session.specs.Requests.{keeps, done_with, turn_at}
use Rattle.child_session.specs.Round.{IsDue, IsOrMemory}
use Rattle.child_session.specs.Talk as talk

done_breaks : (declared : Claim) (claimed said : Bool) → done_with declared claimed ≡ Differs said → keeps declared said ≡ false
done_breaks declared claimed said e = by (keeps declared claimed) refl
  where
    by : (b : Bool) → keeps declared claimed ≡ b → keeps declared said ≡ false
    by true is = absurd (let f : Ends claimed ≡ Differs said = sym (ap (λ b. cond b (Ends claimed) (Differs claimed)) is) ∙ e in cc)
    by false is = let f : Differs claimed ≡ Differs said = sym (ap (λ b. cond b (Ends claimed) (Differs claimed)) is) ∙ e in let same : claimed ≡ said = cc in subst (λ c. keeps declared c ≡ false) same is

done_keeps : (declared : Claim) (said claimed : Bool) → done_with declared said ≡ Ends claimed → keeps declared claimed ≡ true
done_keeps declared said claimed e = by (keeps declared said) refl
  where
    by : (b : Bool) → keeps declared said ≡ b → keeps declared claimed ≡ true
    by false is = absurd (let f : Differs said ≡ Ends claimed = sym (ap (λ b. cond b (Ends said) (Differs said)) is) ∙ e in cc)
    by true is = let f : Ends said ≡ Ends claimed = sym (ap (λ b. cond b (Ends said) (Differs said)) is) ∙ e in let same : said ≡ claimed = cc in subst (λ c. keeps declared c ≡ true) same is

-- what ends a round keeps what was declared
end_keeps : (declared : Claim) (answer : talk.Answer) (claimed : Bool) → turn_at declared answer ≡ Ends claimed → keeps declared claimed ≡ true
end_keeps declared (Err breach) claimed e = absurd cc
end_keeps declared (Ok (frame.Done said)) claimed e = done_keeps declared said claimed e
end_keeps declared (Ok (frame.Init init)) claimed e = absurd cc
end_keeps declared (Ok (frame.Round number over error offered roots)) claimed e = absurd cc
end_keeps declared (Ok (frame.Reply reply)) claimed e = absurd cc
end_keeps declared (Ok (frame.Hello hello)) claimed e = absurd cc
end_keeps declared (Ok (frame.Create creation)) claimed e = absurd cc
end_keeps declared (Ok (frame.Message message)) claimed e = absurd cc
end_keeps declared (Ok (frame.Ask question)) claimed e = absurd cc

-- what differs breaks what was declared
differs_breaks : (declared : Claim) (answer : talk.Answer) (said : Bool) → turn_at declared answer ≡ Differs said → keeps declared said ≡ false
differs_breaks declared (Err breach) said e = absurd cc
differs_breaks declared (Ok (frame.Done claimed)) said e = done_breaks declared claimed said e
differs_breaks declared (Ok (frame.Init init)) said e = absurd cc
differs_breaks declared (Ok (frame.Round number over error offered roots)) said e = absurd cc
differs_breaks declared (Ok (frame.Reply reply)) said e = absurd cc
differs_breaks declared (Ok (frame.Hello hello)) said e = absurd cc
differs_breaks declared (Ok (frame.Create creation)) said e = absurd cc
differs_breaks declared (Ok (frame.Message message)) said e = absurd cc
differs_breaks declared (Ok (frame.Ask question)) said e = absurd cc

turn_is_due : (showing : Showing) (answer : talk.Answer) (turn : Turn) (noted : Noted) → turn_at showing.claim answer ≡ turn
    → IsDue showing (end_of showing.claim showing.limit turn (answer_from noted (claimed_by turn)))
turn_is_due showing answer (Ends claimed) noted is = end_keeps showing.claim answer claimed is
turn_is_due showing answer (Differs said) noted is = (refl, differs_breaks showing.claim answer said is)
turn_is_due showing answer (Asks request) noted is = refl
turn_is_due showing answer (Leaves breach) noted is = tt

-- how a round ends is due, also where it is out of memory then
pub end_is_due : (showing : Showing) (answer : talk.Answer) (turn : Turn) (noted : Noted) → turn_at showing.claim answer ≡ turn
    → (result : Result Answer SessionFault) → IsOrMemory result (end_of showing.claim showing.limit turn (answer_from noted (claimed_by turn))) → IsDue showing result
end_is_due showing answer turn noted is result (inl memory) = subst (IsDue showing) (sym memory) tt
end_is_due showing answer turn noted is result (inr due) = subst (IsDue showing) (sym due) (turn_is_due showing answer turn noted is)

never_failed : (declared : Claim) (limit : ℕ) (turn : Turn) (answer : Answer) → IsErrOf (end_of declared limit turn answer) Failed → ⊥
never_failed declared limit (Ends claimed) answer e = cc
never_failed declared limit (Differs said) answer e = cc
never_failed declared limit (Asks request) answer e = cc
never_failed declared limit (Leaves breach) answer e = cc

pub end_has_reason : (before now : ℕ) (declared : Claim) (limit : ℕ) (turn : Turn) (answer : Answer) → before ≤ now
    → (result : Result Answer SessionFault) → IsOrMemory result (end_of declared limit turn answer) → HasReason before now result
end_has_reason before now declared limit turn answer later result (inl memory) =
    record { later = later; failed = λ e. absurd (let no : IsErrOf {T = Answer} (Err Memory) Failed = sym memory ∙ e in cc) }
end_has_reason before now declared limit turn answer later result (inr due) =
    record { later = later; failed = λ e. absurd (never_failed declared limit turn answer (sym due ∙ e)) }
