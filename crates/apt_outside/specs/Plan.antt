-- Calls that are planned to fail, by their numbers from 1.
use Rattle.std.specs.Prelude.{◌≡◌, ◌↔◌, ◌==◌, ℕ, ◌+◌, ◌-◌, ◌^◌, min, Bool, if◌then◌else◌, List, Option, Some, Result, IsErrOf, IsTrue, IfSome}
use Rattle.std.specs.List.{list_any}
use Rattle.apt_outside.specs.declared.failing.Failing.{Failing}
use Rattle.apt_outside.specs.declared.fault.Fault.{Fault}
use Rattle.apt_outside.specs.declared.fault.Fault.TheVariants.{Failed}

-- the numbers of the calls that are to fail, and how many calls there were
pub record Plan : Type 0 where
  pub numbers : List ℕ
  pub calls : ℕ

-- the number of the next call; the count of calls stays at 4,294,967,295
abbrev pub next_call : Plan → ℕ
next_call plan = min (plan.calls + 1) (2 ^ 32 - 1)

-- the next call is to fail
abbrev pub fails_next : Plan → Bool
fails_next plan = list_any (λ k. k == next_call plan) plan.numbers

-- what is planned after the next call
abbrev pub after_call : Plan → Plan
after_call plan = record { numbers = plan.numbers; calls = next_call plan }

-- the count of faults after the next call
abbrev pub count_after : Plan → ℕ → ℕ
count_after plan before = if fails_next plan then min (before + 1) (2 ^ 64 - 1) else before

-- a call is counted, and fails exactly where its number is planned
pub record Follows {T : Type 0} (plan : Plan) (after : Option Plan) (before now : ℕ) (result : Result T Fault) : Type 0 where
  pub failed : IsErrOf result Failed ↔ IsTrue (fails_next plan)
  pub counted : now ≡ count_after plan before
  pub next : after ≡ Some (after_call plan)

-- where an object tells its plan, its call follows it
abbrev pub Planned : {T : Type 0} → Option Plan → Option Plan → ℕ → ℕ → Result T Fault → Type 0
Planned old new before now result = IfSome old (λ plan. Follows plan new before now result)

-- what an object with planned failures tells
abbrev pub plan_of : Failing → Plan
plan_of failing = record { numbers = failing.numbers.items; calls = failing.calls }

-- a step of an object with planned failures follows its plan
abbrev pub Steps : {T : Type 0} → Failing → Failing → Result T Fault → Type 0
Steps old new result = Follows (plan_of old) (Some (plan_of new)) old.faults new.faults result
