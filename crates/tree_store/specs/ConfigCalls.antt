-- How often, and in which order, a tree is called to read the configuration, where it tells which of its calls are to fail.
use Rattle.std.specs.Prelude.{◌≡◌, ◌↔◌, ◌⊎◌, ℕ, Bool, true, false, Option, Some, IfSome, Result, Ok, Err, IsErrOf, IsTrue}
use Rattle.apt_outside.specs.declared.tree.Tree as tree
use Rattle.apt_outside.specs.Plan.{Plan, fails_next, after_call, count_after}
use Rattle.tree_store.specs.declared.config.ConfigFile.TheVariants.{Config, Services, Kinds}
use Rattle.tree_store.specs.declared.config.RawLists.{RawLists}
use Rattle.tree_store.specs.declared.fault.ConfigReadFault.{ConfigReadFault}
use Rattle.tree_store.specs.declared.fault.ConfigReadFault.TheVariants.{Failed, TooLarge, Memory}

-- the next call alone is made, and `Failed` is answered exactly where its number is planned
pub record IsByOne {A : Type 0} (plan : Plan) (after : Option Plan) (before now : ℕ) (result : Result A ConfigReadFault) : Type 0 where
  pub failed : IsErrOf result Failed ↔ IsTrue (fails_next plan)
  pub counted : now ≡ count_after plan before
  pub next : after ≡ Some (after_call plan)

-- the next call did not fail, and the one behind it is the last
pub record IsByTwo {A : Type 0} (plan : Plan) (after : Option Plan) (before now : ℕ) (result : Result A ConfigReadFault) : Type 0 where
  pub passed : fails_next plan ≡ false
  pub last : IsByOne (after_call plan) after before now result

-- the file of services is read first, and the file of kinds where that one was given
abbrev pub InOrder : Plan → Option Plan → ℕ → ℕ → Result RawLists ConfigReadFault → Type 0
InOrder plan after before now (Ok lists) = IsByTwo {A = RawLists} plan after before now (Ok lists)
InOrder plan after before now (Err (TooLarge Config)) = ⊥
InOrder plan after before now (Err (TooLarge Services)) = IsByOne {A = RawLists} plan after before now (Err (TooLarge Services))
InOrder plan after before now (Err (TooLarge Kinds)) = IsByTwo {A = RawLists} plan after before now (Err (TooLarge Kinds))
InOrder plan after before now (Err Failed) = IsByOne {A = RawLists} plan after before now (Err Failed) ⊎ IsByTwo {A = RawLists} plan after before now (Err Failed)
InOrder plan after before now (Err Memory) = IsByOne {A = RawLists} plan after before now (Err Memory) ⊎ IsByTwo {A = RawLists} plan after before now (Err Memory)

-- where the file of services isn't asked for, the file of kinds alone is read
abbrev pub AsAsked : Bool → Plan → Option Plan → ℕ → ℕ → Result RawLists ConfigReadFault → Type 0
AsAsked true plan after before now result = InOrder plan after before now result
AsAsked false plan after before now result = IsByOne plan after before now result

-- one file is read by one call
abbrev pub ReadsOne : {T A : Type 0} → tree.Ghosts T → T → T → Result A ConfigReadFault → Type 0
ReadsOne t old new result = IfSome (t.plan old) (λ plan. IsByOne plan (t.plan new) (t.faults old) (t.faults new) result)

-- the lists are read by one call or two
abbrev pub ReadsLists : {T : Type 0} → tree.Ghosts T → Bool → T → T → Result RawLists ConfigReadFault → Type 0
ReadsLists t asked old new result = IfSome (t.plan old) (λ plan. AsAsked asked plan (t.plan new) (t.faults old) (t.faults new) result)
