-- Which stop of a run a fault of a session comes to.
use Rattle.std.specs.Prelude.{ℕ, List}
use Rattle.child_session.specs.declared.fault.SessionFault.{SessionFault}
use Rattle.child_session.specs.declared.fault.SessionFault.TheVariants as session
use Rattle.project_units.specs.Refusals.{LeavesProtocol, TooManyQuestions, ClaimBroken, Children, Stop, Refused, Failed, Memory}

-- a fault of a session of the processor with this name
abbrev pub of_session : List ℕ → SessionFault → Stop
of_session processor session.Failed = Failed (Children processor)
of_session processor (session.Breach breach) = Refused (LeavesProtocol processor breach)
of_session processor (session.TooManyQuestions most) = Refused (TooManyQuestions processor most)
of_session processor (session.ClaimBroken declared said) = Refused (ClaimBroken processor declared said)
of_session processor session.Memory = Memory
