-- Which refusal of a session a fault of the children is.
use Rattle.std.specs.Prelude.{ℕ, ◌≤◌, Result, Ok, Err, IsErrOf}
use Rattle.apt_outside.specs.Count.{Rose}
use Rattle.apt_outside.specs.declared.fault.Fault.{Fault}
use Rattle.apt_outside.specs.declared.fault.Fault.TheVariants as outside
use Rattle.child_session.specs.declared.fault.SessionFault.{SessionFault}
use Rattle.child_session.specs.declared.fault.SessionFault.TheVariants.{Failed, Breach, TooManyQuestions, ClaimBroken, Memory}

abbrev pub fault_of : Fault → SessionFault
fault_of outside.Failed = Failed
fault_of outside.Memory = Memory

-- the count never falls, and a session failed only where it rose
pub record HasReason {T : Type 0} (before now : ℕ) (result : Result T SessionFault) : Type 0 where
  pub later : before ≤ now
  pub failed : IsErrOf result Failed → Rose before now

-- a fault of the children or out of memory
abbrev pub IsFreeFault : SessionFault → Type 0
IsFreeFault Failed = Unit {0}
IsFreeFault Memory = Unit {0}
IsFreeFault (Breach breach) = ⊥
IsFreeFault (TooManyQuestions limit) = ⊥
IsFreeFault (ClaimBroken declared said) = ⊥

-- refused, if at all, for one of these
abbrev pub IsFree : {T : Type 0} → Result T SessionFault → Type 0
IsFree (Ok value) = Unit {0}
IsFree (Err fault) = IsFreeFault fault
