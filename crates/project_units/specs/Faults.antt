-- What a refusal of the code is, and when it may come.
use Rattle.std.specs.Prelude.{◌≡◌, ℕ, ◌≤◌, Bool, true, List, Option, None, Result, Ok, Err, IfErr}
use Rattle.apt_outside.specs.Count.{Rose}
use Rattle.project_units.specs.declared.refusal.Refusal as declared
use Rattle.project_units.specs.declared.refusal.Refusal.TheVariants as code
use Rattle.project_units.specs.Refusals.{BadGenerated, LeavesProtocol, TooManyQuestions, ClaimBroken, GeneratedDuplicate, TooManyRounds, TooLarge, Children, Stop, Refused, Failed, Memory, is_refusal, is_failure, exempt_by}

abbrev pub stop_of : declared.Refusal → Stop
stop_of (code.ChildFault processor) = Failed (Children processor)
stop_of (code.Breach processor breach) = Refused (LeavesProtocol processor breach)
stop_of (code.TooManyQuestions processor most) = Refused (TooManyQuestions processor most)
stop_of (code.ClaimBroken processor declared said) = Refused (ClaimBroken processor declared said)
stop_of (code.BadGenerated path place) = Refused (BadGenerated path place)
stop_of (code.GeneratedDuplicate name) = Refused (GeneratedDuplicate name)
stop_of code.TooManyRounds = Refused TooManyRounds
stop_of (code.TooLarge what limit) = Refused (TooLarge what limit)
stop_of code.Memory = Memory

-- whether a call did its work or was refused, so that its answer is due
abbrev pub is_due : {T : Type 0} → Result T declared.Refusal → Bool
is_due (Ok value) = true
is_due (Err refusal) = is_refusal (stop_of refusal)

-- the processor whose child is exempt, by what a call answered
abbrev pub exempt_in : {T : Type 0} → Result T declared.Refusal → Option (List ℕ)
exempt_in (Ok value) = None
exempt_in (Err refusal) = exempt_by (stop_of refusal)

-- the count of the children never falls, and a fault of theirs comes only where it rose
pub record HasReason {T : Type 0} (before now : ℕ) (result : Result T declared.Refusal) : Type 0 where
  pub later : before ≤ now
  pub failed : IfErr result (λ refusal. is_failure (stop_of refusal) ≡ true → Rose before now)
