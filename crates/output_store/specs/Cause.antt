-- Why a call of the store was refused, and how often it calls its tree.
use Rattle.std.specs.Prelude.{◌≡◌, ◌↔◌, ℕ, ◌≤◌, Option, Some, IfSome, Result, IsErrOf, IsTrue}
use Rattle.apt_outside.specs.Count.{Rose}
use Rattle.apt_outside.specs.Plan.{Plan, fails_next, after_call, count_after}
use Rattle.apt_outside.specs.declared.tree.Tree as tree
use Rattle.apt_outside.specs.declared.fault.Fault.{Fault}
use Rattle.apt_outside.specs.declared.fault.Fault.TheVariants as outside
use Rattle.output_store.specs.declared.fault.StoreFault.{StoreFault}
use Rattle.output_store.specs.declared.fault.StoreFault.TheVariants.{Failed, Memory}

-- the tree's fault as the store's
abbrev pub as_store_fault : Fault → StoreFault
as_store_fault outside.Failed = Failed
as_store_fault outside.Memory = Memory

-- the tree's count never falls, and `Failed` is answered only where it rose
pub record HasStoreCause {T : Type 0} (before now : ℕ) (result : Result T StoreFault) : Type 0 where
  pub later : before ≤ now
  pub failed : IsErrOf result Failed → Rose before now

-- the next call alone is made, and `Failed` is answered exactly where its number is planned
pub record IsByOne {A : Type 0} (plan : Plan) (after : Option Plan) (before now : ℕ) (result : Result A StoreFault) : Type 0 where
  pub failed : IsErrOf result Failed ↔ IsTrue (fails_next plan)
  pub counted : now ≡ count_after plan before
  pub next : after ≡ Some (after_call plan)

-- the tree is called once, where it tells which of its calls are to fail
abbrev pub CallsOnce : {T A : Type 0} → tree.Ghosts T → T → T → Result A StoreFault → Type 0
CallsOnce t old new result = IfSome (t.plan old) (λ plan. IsByOne plan (t.plan new) (t.faults old) (t.faults new) result)
