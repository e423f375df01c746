-- What a question comes to by what stands against it.
use Rattle.std.proofs.Common.{◌≡◌, Bool, true, false, Option, None, Some, Result, Ok, Err, sym, ap, ap₂, subst, ◌∙◌}
use Rattle.type_queries.specs.Verdicts.{Verdict, NoSuch, WrongKind, Gives, Stops, judged}
use Rattle.type_queries.specs.declared.fault.QueryFault.{QueryFault}
use Rattle.type_queries.specs.declared.fault.QueryFault.TheVariants as fault

module _ {A : Type 0} (there kinds : Bool) (answer : Verdict A) where
  pub judged-stopped : (f : QueryFault) → Stops (Some f) there kinds → Gives {A = A} (Err f) (judged there kinds answer)
  judged-stopped fault.NoSuch s = ap (λ (t : Bool). judged t kinds answer) s
  judged-stopped fault.WrongKind s = ap₂ (λ (t k : Bool). judged t k answer) s.0 s.1
  judged-stopped fault.TooDeep s = absurd s
  judged-stopped fault.Memory s = absurd s

  pub judged-answered : (r : Result A QueryFault) → Stops None there kinds → Gives r answer → Gives r (judged there kinds answer)
  judged-answered r s g = subst (λ (v : Verdict A). Gives r v) (sym (ap₂ (λ (t k : Bool). judged t k answer) s.0 s.1)) g

pub ruleset judging = (judged-stopped, judged-answered)
