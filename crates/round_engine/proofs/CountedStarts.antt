-- How many children were started where a run was refused, and which refusals come before round 1.
use Rattle.std.proofs.Common.{◌≡◌, ℕ, ◌+◌, ◌≤◌, ◌<◌, List, [], ◌∷◌, ◌++◌, length, length-append, true, false, Err, inl, inr, refl, sym, ap, ◌∙◌, arith}
use Rattle.std.proofs.lemmas.Bool.{false≢true}
use Rattle.apt_outside.specs.Child.{Try, State}
use Rattle.wire_frames.specs.declared.frame.Hello.{Hello}
use Rattle.child_session.specs.declared.fault.SessionFault.{SessionFault}
use Rattle.child_session.specs.declared.fault.SessionFault.TheVariants as fault
use Rattle.child_session.specs.Beginning as session
use Rattle.child_session.specs.Beginning.{RefusesHello}
use Rattle.project_units.specs.Refusals as stop
use Rattle.project_units.specs.Refusals.{Stop, OrMemory, is_refusal, is_of_hello}
use Rattle.round_engine.specs.Faults.{of_session}
use Rattle.project_units.specs.Plans.{Plan}
use Rattle.round_engine.specs.Shown.{StartsUpTo, IsDueStop, StopsOne, IsCounted, StopsCounted}

-- ---- which refusals these are

pub hello_or : (expected s : Stop) → is_of_hello expected ≡ true → OrMemory expected s → is_of_hello s ≡ true
hello_or expected s is (inl e) = ap is_of_hello e ∙ is
hello_or expected s is (inr e) = ap is_of_hello e

-- a fault of a session that does not begin
pub hello_err : (name : List ℕ) (f : SessionFault) (s : Stop) → RefusesHello {T = ℕ × Hello} (Err f) → OrMemory (of_session name f) s → is_of_hello s ≡ true
hello_err name fault.Failed s refuses due = hello_or (of_session name fault.Failed) s refl due
hello_err name (fault.Breach breach) s refuses due = hello_or (of_session name (fault.Breach breach)) s refl due
hello_err name fault.Memory s refuses due = hello_or (of_session name fault.Memory) s refl due
hello_err name (fault.TooManyQuestions most) s refuses due = absurd refuses
hello_err name (fault.ClaimBroken declared said) s refuses due = absurd refuses

-- such a refusal is by no limit and no claim
pub due_of_hello : (s : Stop) → is_of_hello s ≡ true → IsDueStop s
due_of_hello (stop.Refused (stop.TooManyQuestions processor most)) is = absurd (false≢true is)
due_of_hello (stop.Refused (stop.ClaimBroken processor declared said)) is = absurd (false≢true is)
due_of_hello (stop.Refused (stop.LeavesProtocol processor breach)) is = tt
due_of_hello (stop.Refused (stop.BadWords at)) is = tt
due_of_hello (stop.Refused (stop.BadConfig path place)) is = tt
due_of_hello (stop.Refused (stop.UnknownProcessor name)) is = tt
due_of_hello (stop.Refused (stop.BadStub path place)) is = tt
due_of_hello (stop.Refused (stop.BadSource path place)) is = tt
due_of_hello (stop.Refused (stop.DuplicateType name first second)) is = tt
due_of_hello (stop.Refused (stop.BadGenerated path place)) is = tt
due_of_hello (stop.Refused (stop.GeneratedDuplicate name)) is = tt
due_of_hello (stop.Refused stop.TooManyRounds) is = tt
due_of_hello (stop.Refused (stop.TooLarge what most)) is = tt
due_of_hello (stop.Failed object) is = tt
due_of_hello stop.Memory is = tt

-- ---- how many were started

-- before round 1
pub starts_hello : (count : ℕ) (s : Stop) (k0 k : State) → is_of_hello s ≡ true → k0.starts ≤ k.starts → k.starts ≤ k0.starts + count → (is_refusal s ≡ true → k0.starts < k.starts) → StartsUpTo count s k0 k
starts_hello count s k0 k hello least most due = record { least = least; most = most; due = due; all = λ later. absurd (false≢true (sym later ∙ hello)) }

-- memory was wanted
pub starts_memory : (count : ℕ) (s : Stop) (k0 k : State) → s ≡ stop.Memory → k0.starts ≤ k.starts → k.starts ≤ k0.starts + count → StartsUpTo count s k0 k
starts_memory count s k0 k is least most = starts_hello count s k0 k (ap is_of_hello is) least most (λ due. absurd (false≢true (ap is_refusal (sym is) ∙ due)))

-- one was started
pub starts_one : (s : Stop) (k0 k : State) → is_of_hello s ≡ true → k.starts ≡ k0.starts + 1 → StartsUpTo 1 s k0 k
starts_one s k0 k hello one = starts_hello 1 s k0 k hello (omega (arith, one)) (omega (arith, one)) (λ due. omega (arith, one))

-- all were
pub starts_all : (count : ℕ) (s : Stop) (k0 k : State) → 0 < count → k.starts ≡ k0.starts + count → StartsUpTo count s k0 k
starts_all count s k0 k some all = record { least = omega (arith, all); most = omega (arith, all); due = λ due. omega (arith, some, all); all = λ later. all }

-- some before it, and then as many as were of it
pub starts_later : (count i : ℕ) (s : Stop) (k0 k k1 : State) → i < count → k.starts ≡ k0.starts + i → is_of_hello s ≡ true → StartsUpTo 1 s k k1 → StartsUpTo count s k0 k1
starts_later count i s k0 k k1 lt so_far hello starts =
    starts_hello count s k0 k1 hello (omega (arith, so_far, starts.least)) (omega (arith, so_far, lt, starts.most)) (λ due. omega (arith, so_far, starts.due due))

-- no more since
pub starts_same : (count : ℕ) (s : Stop) (k0 k1 k2 : State) → k2.starts ≡ k1.starts → StartsUpTo count s k0 k1 → StartsUpTo count s k0 k2
starts_same count s k0 k1 k2 same starts = record {
  least = omega (arith, same, starts.least);
  most = omega (arith, same, starts.most);
  due = λ due. omega (arith, same, starts.due due);
  all = λ later. same ∙ starts.all later;
}

-- a fault of a session that does not begin
pub starts_err : (name : List ℕ) (f : SessionFault) (s : Stop) (k0 k1 : State) → RefusesHello {T = ℕ × Hello} (Err f) → session.StartsOne {T = ℕ × Hello} k0.starts k1.starts (Err f)
    → OrMemory (of_session name f) s → StartsUpTo 1 s k0 k1
starts_err name fault.Failed s k0 k1 refuses starts (inl e) =
    starts_hello 1 s k0 k1 (ap is_of_hello e) starts.0 starts.1 (λ due. absurd (false≢true (ap is_refusal (sym e) ∙ due)))
starts_err name fault.Failed s k0 k1 refuses starts (inr e) = starts_memory 1 s k0 k1 e starts.0 starts.1
starts_err name fault.Memory s k0 k1 refuses starts (inl e) = starts_memory 1 s k0 k1 e starts.0 starts.1
starts_err name fault.Memory s k0 k1 refuses starts (inr e) = starts_memory 1 s k0 k1 e starts.0 starts.1
starts_err name (fault.Breach breach) s k0 k1 refuses starts due = starts_one s k0 k1 (hello_or (of_session name (fault.Breach breach)) s refl due) starts
starts_err name (fault.TooManyQuestions most) s k0 k1 refuses starts due = absurd refuses
starts_err name (fault.ClaimBroken declared said) s k0 k1 refuses starts due = absurd refuses

-- ---- how many were tried

-- as many were started as were tried
pub counted_by : (tries : List Try) (k0 k : State) → k.tried ≡ k0.tried ++ tries → k.starts ≡ k0.starts + length tries → IsCounted k0 k
counted_by tries k0 k tried starts = omega (arith, ap length tried, length-append k0.tried tries, starts)

pub counted_same : (k0 k1 k2 : State) → k2.tried ≡ k1.tried → k2.starts ≡ k1.starts → IsCounted k0 k1 → IsCounted k0 k2
counted_same k0 k1 k2 tried starts counted = omega (arith, ap length tried, starts, counted)

pub stops_same : (s : Stop) (k0 k1 k2 : State) → k2.tried ≡ k1.tried → k2.starts ≡ k1.starts → StopsCounted s k0 k1 → StopsCounted s k0 k2
stops_same s k0 k1 k2 tried starts (inl counted) = inl (counted_same k0 k1 k2 tried starts counted)
stops_same s k0 k1 k2 tried starts (inr counted) = inr (counted.0, omega (arith, ap length tried, starts, counted.1))

-- some before, and then one that was refused
pub stops_later : (s : Stop) (k0 k k1 : State) → IsCounted k0 k → StopsCounted s k k1 → StopsCounted s k0 k1
stops_later s k0 k k1 so_far (inl counted) = inl (omega (arith, so_far, counted))
stops_later s k0 k k1 so_far (inr counted) = inr (counted.0, omega (arith, so_far, counted.1))

-- one was refused
pub stops_counted : (plan : Plan) (p : Try) (s : Stop) (k0 k1 : State) → StopsOne plan p s k0 k1 → StopsCounted s k0 k1
stops_counted plan p (stop.Refused refusal) k0 k1 none = inl (counted_by (p ∷ []) k0 k1 none.tried none.starts)
stops_counted plan p (stop.Failed object) k0 k1 (is, inl unstarted) = inr (refl, omega (arith, ap length unstarted.tried, length-append k0.tried (p ∷ []), unstarted.starts))
stops_counted plan p (stop.Failed object) k0 k1 (is, inr stopped) = inl (counted_by (p ∷ []) k0 k1 stopped.tried stopped.starts)
stops_counted plan p stop.Memory k0 k1 (inl untried) = inl (counted_same k0 k0 k1 untried.tried untried.starts (omega arith))
stops_counted plan p stop.Memory k0 k1 (inr stopped) = inl (counted_by (p ∷ []) k0 k1 stopped.tried stopped.starts)
