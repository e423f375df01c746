-- Refusals that are due whatever the children tell: one by a limit has that of a round, and one by a claim that was broken broke it.
use Rattle.std.proofs.Common.{◌≡◌, ℕ, List, None, Result, Err, sym, subst, ◌∙◌}
use Rattle.child_session.specs.declared.fault.SessionFault.{SessionFault}
use Rattle.child_session.specs.declared.fault.SessionFault.TheVariants as fault
use Rattle.child_session.specs.declared.round.Answer.{Answer}
use Rattle.child_session.specs.declared.round.Showing.{Showing}
use Rattle.child_session.specs.Round.{IsDue}
use Rattle.round_env.specs.declared.environment.RoundEnv.{RoundEnv}
use Rattle.project_units.specs.Refusals as stop
use Rattle.project_units.specs.Refusals.{Stop, named_by}
use Rattle.round_engine.specs.Faults.{of_session}
use Rattle.round_engine.specs.Run.{most_questions}
use Rattle.round_engine.specs.Shown.{IsDueStop}

-- a refusal that names no processor is neither of the two
pub due_unnamed : (s : Stop) → named_by s ≡ None → IsDueStop s
due_unnamed (stop.Refused (stop.BadWords at)) is = tt
due_unnamed (stop.Refused (stop.BadConfig path place)) is = tt
due_unnamed (stop.Refused (stop.UnknownProcessor name)) is = tt
due_unnamed (stop.Refused (stop.BadStub path place)) is = tt
due_unnamed (stop.Refused (stop.BadSource path place)) is = tt
due_unnamed (stop.Refused (stop.DuplicateType name first second)) is = tt
due_unnamed (stop.Refused (stop.BadGenerated path place)) is = tt
due_unnamed (stop.Refused (stop.LeavesProtocol processor breach)) is = tt
due_unnamed (stop.Refused (stop.TooManyQuestions processor most)) is = absurd cc
due_unnamed (stop.Refused (stop.ClaimBroken processor declared said)) is = absurd cc
due_unnamed (stop.Refused (stop.GeneratedDuplicate name)) is = tt
due_unnamed (stop.Refused stop.TooManyRounds) is = tt
due_unnamed (stop.Refused (stop.TooLarge what most)) is = tt
due_unnamed (stop.Failed object) is = tt
due_unnamed stop.Memory is = tt

abbrev fault_of : SessionFault → Result Answer SessionFault
fault_of f = Err f

-- a session's fault, in a round that is shown so
module _ (processor : List ℕ) (shown : Showing) (env : RoundEnv) (limit_is : shown.limit ≡ most_questions env) where
  due_of : (f : SessionFault) → IsDue shown (fault_of f) → IsDueStop (of_session processor f)
  due_of fault.Failed is = tt
  due_of (fault.Breach breach) is = tt
  due_of (fault.TooManyQuestions most) is = (env, is ∙ limit_is)
  due_of (fault.ClaimBroken declared said) is = is.1
  due_of fault.Memory is = tt

  pub due_session : (f : SessionFault) → IsDue shown (fault_of f) → (s : Stop) → s ≡ of_session processor f → IsDueStop s
  due_session f is s due = subst IsDueStop (sym due) (due_of f is)
