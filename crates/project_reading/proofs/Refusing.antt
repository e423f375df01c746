-- A part of the reading of a project that is refused.
use Rattle.std.proofs.Common.{◌≡◌, Result, Ok, inl, inr, refl, sym, ap, subst}
use Rattle.tree_store.specs.declared.fault.StoreFault.{StoreFault}
use Rattle.tree_store.specs.declared.fault.StoreFault.TheVariants as store
use Rattle.project_units.specs.Refusals.{Refusal}
use Rattle.project_units.specs.Units.{and_then}
use Rattle.project_reading.specs.declared.status.Status.{Status}
use Rattle.project_reading.specs.Verdicts.{Verdict, Done, Errors, Refused, Failed, Input, Memory, OrMemory, verdict}
use Rattle.project_reading.specs.Endings.{of_store}
use Rattle.project_reading.specs.Entering.{RefusesAs, ComesAs}

module _ {A : Type 0} (due : Result A Refusal) where
  pub refuses_or : (first v : Verdict) → RefusesAs due first → OrMemory first v → RefusesAs due v
  refuses_or first v is (inl same) = subst (RefusesAs due) (sym same) is
  refuses_or first v is (inr memory) = subst (RefusesAs due) (sym memory) tt

  -- nothing behind it changes that
  pub refuses_then : {B : Type 0} (v : Verdict) (next : A → Result B Refusal) → RefusesAs due v → RefusesAs (and_then due next) v
  refuses_then (Refused refusal) next is = ap (λ o. and_then o next) is
  refuses_then (Failed object) next is = is
  refuses_then (Input fault) next is = absurd is
  refuses_then Memory next is = tt
  refuses_then Done next is = absurd is
  refuses_then (Errors count) next is = absurd is

  -- what stands before it doesn't either
  pub refuses_behind : {B : Type 0} (v : Verdict) (value : A) (next : A → Result B Refusal) → due ≡ Ok value → RefusesAs (next value) v → RefusesAs (and_then due next) v
  refuses_behind v value next is refuses = subst (λ o. RefusesAs (and_then o next) v) (sym is) refuses

  -- the tree failed, or memory was wanted
  pub refuses_store : (fault : StoreFault) → RefusesAs due (verdict (of_store fault))
  refuses_store store.Failed = refl
  refuses_store store.Memory = tt

  -- what comes of the next is what comes of both
  pub comes_behind : {B T : Type 0} (value : A) (next : A → Result B Refusal) (means : T → B) (result : Result T Status) → due ≡ Ok value → ComesAs (next value) means result → ComesAs (and_then due next) means result
  comes_behind value next means result is comes = subst (λ o. ComesAs (and_then o next) means result) (sym is) comes
