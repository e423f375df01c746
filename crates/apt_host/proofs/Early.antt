-- What a part of a build that did not do its work is not.
use Rattle.std.proofs.Common.{◌≡◌, ◌≢◌, ℕ, Bool, true, false, None, Result, refl, sym, ◌∙◌, subst}
use Rattle.std.proofs.lemmas.Bool.{false≢true}
use Rattle.tree_store.specs.declared.fault.StoreFault.{StoreFault}
use Rattle.tree_store.specs.declared.fault.StoreFault.TheVariants as store
use Rattle.project_units.specs.Refusals.{Refusal, BadWords, Object, Tree, Sink, Children}
use Rattle.project_reading.specs.Verdicts.{Verdict, Done, Errors, Refused, Failed, Input, Memory, verdict, is_finished, has_run, is_input, is_tree, is_sink, is_children, named_in, fails}
use Rattle.project_reading.specs.Endings.{of_store, EndsEarly}
use Rattle.apt_host.specs.BuildEndings.{IsConcluded}
use Rattle.apt_host.specs.Commands.{MayBuild}
use Rattle.project_reading.specs.Entering.{RefusesAs, IsDueRead}

module _ (is : Object → Bool) where
  pub not_done_early : (v : Verdict) → EndsEarly is v → v ≢ Done
  not_done_early v early done = subst (EndsEarly is) done early

  on_table_early : (v : Verdict) (at : ℕ) → EndsEarly is v → v ≢ Refused (BadWords at)
  on_table_early v at early bad = subst (EndsEarly is) bad early

  no_input_early : (v : Verdict) → EndsEarly is v → is_input v ≡ false
  no_input_early Done early = refl
  no_input_early (Errors count) early = refl
  no_input_early (Refused refusal) early = refl
  no_input_early (Failed object) early = refl
  no_input_early (Input fault) early = absurd early
  no_input_early Memory early = refl

  pub own_early : (v : Verdict) → EndsEarly is v → MayBuild v
  own_early v early = (λ at. on_table_early v at early, no_input_early v early)

  pub unfinished_early : (v : Verdict) → EndsEarly is v → is_finished v ≡ false
  unfinished_early Done early = absurd early
  unfinished_early (Errors count) early = absurd early
  unfinished_early (Refused refusal) early = refl
  unfinished_early (Failed object) early = refl
  unfinished_early (Input fault) early = absurd early
  unfinished_early Memory early = refl

  pub not_run_early : (v : Verdict) → is Sink ≡ false → EndsEarly is v → has_run v ≡ false
  not_run_early Done other early = absurd early
  not_run_early (Errors count) other early = absurd early
  not_run_early (Refused refusal) other early = refl
  not_run_early (Failed Tree) other early = refl
  not_run_early (Failed Sink) other early = absurd (false≢true (sym other ∙ early))
  not_run_early (Failed (Children processor)) other early = refl
  not_run_early (Input fault) other early = absurd early
  not_run_early Memory other early = refl

  pub no_sink_early : (v : Verdict) → is Sink ≡ false → EndsEarly is v → fails is_sink v ≡ false
  no_sink_early Done other early = absurd early
  no_sink_early (Errors count) other early = absurd early
  no_sink_early (Refused refusal) other early = refl
  no_sink_early (Failed Tree) other early = refl
  no_sink_early (Failed Sink) other early = absurd (false≢true (sym other ∙ early))
  no_sink_early (Failed (Children processor)) other early = refl
  no_sink_early (Input fault) other early = absurd early
  no_sink_early Memory other early = refl

-- a fault of the store
pub store_early : (fault : StoreFault) → EndsEarly is_tree (verdict (of_store fault))
store_early store.Failed = refl
store_early store.Memory = tt

pub store_due : (fault : StoreFault) → IsDueRead (verdict (of_store fault))
store_due store.Failed = tt
store_due store.Memory = tt

-- the tree failed, or memory was wanted
pub store_refuses : {A : Type 0} (due : Result A Refusal) (fault : StoreFault) → RefusesAs due (verdict (of_store fault))
store_refuses due store.Failed = refl
store_refuses due store.Memory = tt

pub store_unnamed : (fault : StoreFault) → named_in (verdict (of_store fault)) ≡ None
store_unnamed store.Failed = refl
store_unnamed store.Memory = refl

-- no child failed where a build came to its end
pub no_child_concluded : (v : Verdict) → IsConcluded v → fails is_children v ≡ false
no_child_concluded Done concluded = refl
no_child_concluded (Errors count) concluded = refl
no_child_concluded (Refused refusal) concluded = absurd concluded
no_child_concluded (Failed object) concluded = concluded
no_child_concluded (Input fault) concluded = absurd concluded
no_child_concluded Memory concluded = refl

-- what comes behind a run names no processor
pub unnamed_concluded : (v : Verdict) → IsConcluded v → named_in v ≡ None
unnamed_concluded Done concluded = refl
unnamed_concluded (Errors count) concluded = refl
unnamed_concluded (Refused refusal) concluded = absurd concluded
unnamed_concluded (Failed Tree) concluded = refl
unnamed_concluded (Failed Sink) concluded = refl
unnamed_concluded (Failed (Children processor)) concluded = absurd cc
unnamed_concluded (Input fault) concluded = absurd concluded
unnamed_concluded Memory concluded = refl

-- nor is it an answer that another command has
own_input : (v : Verdict) → IsConcluded v → is_input v ≡ false
own_input Done concluded = refl
own_input (Errors count) concluded = refl
own_input (Refused refusal) concluded = absurd concluded
own_input (Failed object) concluded = refl
own_input (Input fault) concluded = absurd concluded
own_input Memory concluded = refl

pub own_concluded : (v : Verdict) → IsConcluded v → MayBuild v
own_concluded v concluded = (λ at bad. subst IsConcluded bad concluded, own_input v concluded)
