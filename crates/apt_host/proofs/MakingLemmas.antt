-- From a clean run to what making the files of a build gives.
use Rattle.std.proofs.Common.{◌≡◌, ℕ, ◌+◌, ◌<◌, ◌≤◌, Bool, true, false, List, [], ◌∷◌, ◌++◌, length, map, take, Result, Ok, Err, IfSome, Contains, refl, sym, ap, ◌∙◌, subst, length-append, arith}
use Rattle.std.proofs.lemmas.Bool.{false≢true}
use Rattle.std.proofs.lemmas.List.{length-map, length-take-le, take_all}
use Rattle.std.specs.Prelude.{not}
use Rattle.apt_outside.specs.Count.{Told}
use Rattle.apt_outside.specs.Child.{Try, State}
use Rattle.round_engine.specs.declared.running.Finished.{Finished}
use Rattle.record_forms.specs.declared.record.Key.{Key}
use Rattle.record_forms.specs.declared.record.KeyProcessor.{KeyProcessor}
use Rattle.project_units.specs.declared.project.Project.{Project}
use Rattle.project_units.specs.declared.refusal.Refusal as engine
use Rattle.project_units.specs.declared.refusal.Refusal.TheVariants as run
use Rattle.project_units.specs.Refusals as stop
use Rattle.project_units.specs.Refusals.{Tree, Sink, Children, Stop, NamesAmong, is_failure, is_refusal, exempt_by}
use Rattle.project_units.specs.Faults.{stop_of, HasReason}
use Rattle.round_engine.specs.Run.{Run, run_of, frames_of}
use Rattle.round_engine.specs.Shown.{StopsAs, StartsUpTo, TriesInOrder, IsCounted, TellsMore, ShowsNoMore, IsDueStop}
use Rattle.round_engine.specs.Clean as clean
use Rattle.project_units.specs.Plans.{try_of, name_of, plan_of, tries_in, names_in}
use Rattle.round_engine.specs.Clean.{Talked}
use Rattle.project_reading.specs.declared.status.Status.{Status}
use Rattle.project_reading.specs.Project.{shown_project}
use Rattle.apt_host.specs.CleanBuild.{outcome_of, outcome_of_run, verdict_of}
use Rattle.project_reading.specs.Verdicts.{Done, verdict, stopped, is_free, is_finished, is_children, named_in, fails, OrFree, HasCause}
use Rattle.project_reading.specs.Endings.{EndsEarly}
use Rattle.apt_host.specs.Exempt.{exempt_in}
use Rattle.apt_host.specs.Making.{Makes, RefusesRun}
use Rattle.apt_host.specs.Promises.{IsDue}
use Rattle.apt_host.specs.Builds.{UsesKey}

-- ---- a run that ended early

pub fails_stop : (s : Stop) → fails is_children (stopped s) ≡ true → is_failure s ≡ true
fails_stop (stop.Refused refusal) e = absurd cc
fails_stop (stop.Failed object) e = refl
fails_stop stop.Memory e = absurd cc

early_of : (refusal : engine.Refusal) → EndsEarly is_children (stopped (stop_of refusal))
early_of (run.ChildFault processor) = refl
early_of (run.Breach processor breach) = tt
early_of (run.TooManyQuestions processor most) = tt
early_of (run.ClaimBroken processor declared said) = tt
early_of (run.BadGenerated path place) = tt
early_of (run.GeneratedDuplicate name) = tt
early_of run.TooManyRounds = tt
early_of (run.TooLarge what limit) = tt
early_of run.Memory = tt

-- and is not finished
unfinished_stop : (s : Stop) → is_finished (stopped s) ≡ false
unfinished_stop (stop.Refused refusal) = refl
unfinished_stop (stop.Failed object) = refl
unfinished_stop stop.Memory = refl

due_stop : (s : Stop) → not (is_free (stopped s)) ≡ true → is_refusal s ≡ true
due_stop (stop.Refused refusal) e = refl
due_stop (stop.Failed object) e = absurd cc
due_stop stop.Memory e = absurd cc

-- the child that is exempt
exempt_as : (s : Stop) → exempt_by s ≡ exempt_in (stopped s)
exempt_as (stop.Refused refusal) = refl
exempt_as (stop.Failed Tree) = refl
exempt_as (stop.Failed Sink) = refl
exempt_as (stop.Failed (Children processor)) = refl
exempt_as stop.Memory = refl

names_stop : (names : List (List ℕ)) (s : Stop) → NamesAmong names s → IfSome (named_in (stopped s)) (Contains names)
names_stop names (stop.Refused refusal) named = named
names_stop names (stop.Failed Tree) named = tt
names_stop names (stop.Failed Sink) named = tt
names_stop names (stop.Failed (Children name)) named = named
names_stop names stop.Memory named = tt

-- a refusal of a run comes behind a start
module _ (old new : State) where
  refuses_run : (refusal : engine.Refusal) → (is_refusal (stop_of refusal) ≡ true → old.starts < new.starts) → RefusesRun old new (stopped (stop_of refusal))
  refuses_run (run.ChildFault processor) rose = tt
  refuses_run (run.Breach processor breach) rose = (rose refl, refl)
  refuses_run (run.TooManyQuestions processor most) rose = (rose refl, refl)
  refuses_run (run.ClaimBroken processor declared said) rose = (rose refl, refl)
  refuses_run (run.BadGenerated path place) rose = (rose refl, refl)
  refuses_run (run.GeneratedDuplicate name) rose = (rose refl, refl)
  refuses_run run.TooManyRounds rose = (rose refl, refl)
  refuses_run (run.TooLarge what limit) rose = (rose refl, refl)
  refuses_run run.Memory rose = tt

  is_due_run : (refusal : engine.Refusal) → (is_refusal (stop_of refusal) ≡ true → old.starts < new.starts) → IsDueStop (stop_of refusal) → IsDue old new (stopped (stop_of refusal))
  is_due_run (run.ChildFault processor) rose is = tt
  is_due_run (run.Breach processor breach) rose is = tt
  is_due_run (run.TooManyQuestions processor most) rose is = is
  is_due_run (run.ClaimBroken processor declared said) rose is = is
  is_due_run (run.BadGenerated path place) rose is = tt
  is_due_run (run.GeneratedDuplicate name) rose is = tt
  is_due_run run.TooManyRounds rose is = tt
  is_due_run (run.TooLarge what limit) rose is = λ same. absurd (omega (arith, same, rose refl))
  is_due_run run.Memory rose is = tt

-- ---- the processors of a key

-- the names of a key are those of its plan
pub names_are : (processors : List KeyProcessor) → map name_of processors ≡ map (λ (t : Try). t.0) (map try_of processors)
names_are [] = refl
names_are (p ∷ processors) = ap (λ names. p.name ∷ names) (names_are processors)

pub count_tries : (key : Key) → length (tries_in key) ≡ length key.processors
count_tries key = length-map key.processors try_of

-- where it is talked of a run, it is told
pub told_of : (talks : Bool) (processors : List Try) (P : Type 0) → Talked talks processors P → Told talks P
told_of talks [] P p = λ told. p
told_of talks (processor ∷ others) P p = λ told. p told

-- where each start gave a child, and there is one for each, all were tried
all_tried : (processors : List Try) (old new : State) → new.starts ≡ old.starts + length processors → IsCounted old new → TriesInOrder processors old new → new.tried ≡ old.tried ++ processors
all_tried processors old new starts counted tries =
    let tried : length new.tried ≡ length old.tried + tries.count =
    ap length tries.tried ∙ length-append old.tried (take tries.count processors) ∙ ap (λ n. length old.tried + n) (length-take-le tries.count processors tries.few) in
    let whole : length processors ≤ tries.count = omega (arith, starts, counted, tried) in
    tries.tried ∙ ap (λ ts. old.tried ++ ts) (take_all tries.count processors whole)

-- what was done with the children
module _ (talks : Bool) (key : Key) (old new : State) (tried : Told talks (TriesInOrder (tries_in key) old new)) where
  pub uses_finished : (finished : Finished) → clean.Starts key (Ok finished) old new → Told talks (IsCounted old new) → Told talks (TellsMore (length (tries_in key)) old new)
      → UsesKey talks key Done old new
  uses_finished finished starts counted more =
      let all : new.starts ≡ old.starts + length (tries_in key) = starts in
      record {
        finished = λ done. all;
        least = omega (arith, all);
        most = omega (arith, all);
        named = tt;
        tried = tried;
        all = λ done told. all_tried (tries_in key) old new all (counted told) (tried told);
        more = more;
      }

  pub uses_refused : (refusal : engine.Refusal) (status : Status) → verdict status ≡ stopped (stop_of refusal) → NamesAmong (names_in key) (stop_of refusal)
      → clean.Starts key (Err refusal) old new → Told talks (TellsMore (length (tries_in key)) old new) → UsesKey talks key (verdict status) old new
  uses_refused refusal status due_as named starts more =
      let up_to : StartsUpTo (length (tries_in key)) (stop_of refusal) old new = starts in
      record {
        finished = λ done. absurd (false≢true (sym (ap is_finished due_as ∙ unfinished_stop (stop_of refusal)) ∙ ap is_finished done));
        all = λ done. absurd (false≢true (sym (ap is_finished due_as ∙ unfinished_stop (stop_of refusal)) ∙ ap is_finished done));
        least = up_to.least;
        most = up_to.most;
        named = subst (λ v. IfSome (named_in v) (Contains (names_in key))) (sym due_as) (names_stop (names_in key) (stop_of refusal) named);
        tried = tried;
        more = more;
      }

-- a status that is what a run came to
module _ (refusal : engine.Refusal) (status : Status) (due_as : verdict status ≡ stopped (stop_of refusal)) where
  -- it comes behind a start
  pub run_from : (key : Key) (old new : State) → clean.Starts key (Err refusal) old new → RefusesRun old new (verdict status)
  run_from key old new starts = subst (RefusesRun old new) (sym due_as) (refuses_run old new refusal starts.due)

  pub due_from : (key : Key) (old new : State) → clean.Starts key (Err refusal) old new → IsDueStop (stop_of refusal) → IsDue old new (verdict status)
  due_from key old new starts is = subst (IsDue old new) (sym due_as) (is_due_run old new refusal starts.due is)

  pub cause_from : (before now : ℕ) → HasReason {T = Finished} before now (Err refusal) → HasCause is_children (verdict status) before now
  cause_from before now reason = record { later = reason.later; rose = λ e. reason.failed (fails_stop (stop_of refusal) (ap (fails is_children) (sym due_as) ∙ e)) }

  pub early_from : EndsEarly is_children (verdict status)
  early_from = subst (EndsEarly is_children) (sym due_as) (early_of refusal)

-- ---- the run

-- where it is talked of a run, it is of a build
pub talked_then : (talks : Bool) (processors : List Try) (P Q : Type 0) → Talked talks processors P → (P → Q) → Talked talks processors Q
talked_then talks [] P Q p then = then p
talked_then talks (processor ∷ others) P Q p then = λ told. then (p told)

module _ (project : Project) (old new : State) where
  abbrev whole : Run
  whole = run_of old.says (plan_of project.key) project.initial

  abbrev Cleaned : Result Finished engine.Refusal → Type 0
  Cleaned result = clean.Cleans (plan_of project.key) project.initial old new result

  -- a refusal is the clean build's
  verdict_here : (s : Stop) → StopsAs whole (frames_of whole) s → OrFree (verdict_of (outcome_of old.says (Ok (shown_project project)))) (stopped s)
  verdict_here (stop.Refused refusal) due_as = λ free. sym (ap (λ r. verdict_of (outcome_of_run (plan_of project.key) r)) due_as)
  verdict_here (stop.Failed object) due_as = λ free. absurd cc
  verdict_here stop.Memory due_as = λ free. absurd cc

  makes_finished : (finished : Finished) → Cleaned (Ok finished) → Makes (shown_project project) old new (Ok finished)
  makes_finished finished cleans = record { comes = cleans.comes; more = cleans.more; shown = λ due. cleans.shown refl; fronts = cleans.fronts }

  makes_refused : (refusal : engine.Refusal) (status : Status) → verdict status ≡ stopped (stop_of refusal) → Cleaned (Err refusal) → Makes (shown_project project) old new (Err status)
  makes_refused refusal status due_as cleans = record {
    comes = subst (OrFree (verdict_of (outcome_of old.says (Ok (shown_project project))))) (sym due_as) (verdict_here (stop_of refusal) cleans.comes);
    more = cleans.more;
    shown = λ made. cleans.shown (due_stop (stop_of refusal) (ap (λ v. not (is_free v)) (sym due_as) ∙ made));
    fronts = subst (λ exempt. ShowsNoMore exempt (plan_of project.key).processors (frames_of whole) old new) (exempt_as (stop_of refusal) ∙ sym (ap exempt_in due_as)) cleans.fronts;
  }

  module _ (talks : Bool) where
    pub made_from : (finished : Finished) → Talked talks (tries_in project.key) (Cleaned (Ok finished)) → Talked talks (tries_in project.key) (Makes (shown_project project) old new (Ok finished))
    made_from finished cleans = talked_then talks (tries_in project.key) _ _ cleans (λ c. makes_finished finished c)

    pub refused_from : (refusal : engine.Refusal) (status : Status) → verdict status ≡ stopped (stop_of refusal) → Talked talks (tries_in project.key) (Cleaned (Err refusal))
        → Talked talks (tries_in project.key) (Makes (shown_project project) old new (Err status))
    refused_from refusal status due_as cleans = talked_then talks (tries_in project.key) _ _ cleans (λ c. makes_refused refusal status due_as c)

    -- nothing is told anew but of one child for each processor
    pub more_from : (result : Result Finished engine.Refusal) → Talked talks (tries_in project.key) (Cleaned result) → Told talks (TellsMore (length (tries_in project.key)) old new)
    more_from result cleans = λ told. (told_of talks (tries_in project.key) (Cleaned result) cleans told).more
