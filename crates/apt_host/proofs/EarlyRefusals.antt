-- A refusal before a run is that of the project; and what is due of each refusal, whatever the tree and the children tell.
use Rattle.std.proofs.Common.{◌≡◌, ◌<◌, ◌⊎◌, Bool, true, false, None, inl, inr, refl, sym, ap, ◌∙◌, subst, arith}
use Rattle.std.proofs.lemmas.Bool.{false≢true}
use Rattle.apt_outside.specs.Count.{Told}
use Rattle.apt_outside.specs.Files.{Files}
use Rattle.apt_outside.specs.Child.{State}
use Rattle.project_units.specs.Refusals.{Refusal, BadWords, BadConfig, UnknownProcessor, BadStub, BadSource, DuplicateType, BadGenerated, LeavesProtocol, TooManyQuestions, ClaimBroken, GeneratedDuplicate, TooManyRounds, TooLarge}
use Rattle.project_reading.specs.Configuration.{Options, is_of_project}
use Rattle.project_reading.specs.Project.{read_of}
use Rattle.project_reading.specs.Verdicts.{Verdict, Done, Errors, Refused, Failed, Input, Memory, is_free, named_in}
use Rattle.apt_host.specs.BuildEndings.{IsConcluded}
use Rattle.project_reading.specs.Entering.{RefusesAs, IsDueRead}
use Rattle.apt_host.specs.Making.{RefusesRun}
use Rattle.apt_host.specs.Promises.{RefusesRead, IsDue}

-- ---- whose refusal it is

module _ (old new : State) where
  -- one of a run comes behind a start, and is none that the project alone comes to
  not_before : (refusal : Refusal) → (old.starts < new.starts) × (is_of_project refusal ≡ false) → (new.starts ≡ old.starts) ⊎ (is_of_project refusal ≡ true) → ⊥
  not_before refusal run (inl same) = omega (arith, same, run.0)
  not_before refusal run (inr own) = false≢true (sym run.1 ∙ own)

module _ (tells : Bool) (options : Options) (project : Files) (old new : State) where
  -- the project was not read
  pub refuses_read : (v : Verdict) → Told tells (RefusesAs (read_of options project) v) → RefusesRead tells options project old new v
  refuses_read v refuses = λ told refusal is early. subst (RefusesAs (read_of options project)) is (refuses told)

  -- nothing was refused
  pub refuses_free : (v : Verdict) → is_free v ≡ true → RefusesRead tells options project old new v
  refuses_free v free = λ told refusal is early. absurd (false≢true (sym (ap is_free is) ∙ free))

  pub refuses_concluded : (v : Verdict) → IsConcluded v → RefusesRead tells options project old new v
  refuses_concluded v concluded = λ told refusal is early. absurd (subst IsConcluded is concluded)

  -- the run was refused
  pub refuses_after : (v : Verdict) → RefusesRun old new v → RefusesRead tells options project old new v
  refuses_after v run = λ told refusal is early. absurd (not_before old new refusal (subst (RefusesRun old new) is run) early)

-- ---- what is due

module _ (old new : State) where
  -- a project was refused, which names no processor
  pub due_project : (v : Verdict) → named_in v ≡ None → IsDueRead v → IsDue old new v
  due_project Done none due = tt
  due_project (Errors count) none due = tt
  due_project (Refused (BadWords at)) none due = tt
  due_project (Refused (BadConfig path place)) none due = due
  due_project (Refused (UnknownProcessor name)) none due = tt
  due_project (Refused (BadStub path place)) none due = tt
  due_project (Refused (BadSource path place)) none due = tt
  due_project (Refused (DuplicateType name first second)) none due = tt
  due_project (Refused (BadGenerated path place)) none due = tt
  due_project (Refused (LeavesProtocol processor breach)) none due = tt
  due_project (Refused (TooManyQuestions processor most)) none due = absurd cc
  due_project (Refused (ClaimBroken processor declared said)) none due = absurd cc
  due_project (Refused (GeneratedDuplicate name)) none due = tt
  due_project (Refused TooManyRounds) none due = tt
  due_project (Refused (TooLarge what limit)) none due = λ same. due
  due_project (Failed object) none due = tt
  due_project (Input fault) none due = tt
  due_project Memory none due = tt

  pub due_concluded : (v : Verdict) → IsConcluded v → IsDue old new v
  due_concluded Done concluded = tt
  due_concluded (Errors count) concluded = tt
  due_concluded (Refused refusal) concluded = absurd concluded
  due_concluded (Failed object) concluded = tt
  due_concluded (Input fault) concluded = absurd concluded
  due_concluded Memory concluded = tt
