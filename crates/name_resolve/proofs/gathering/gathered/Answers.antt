use Rattle.std.proofs.Common.{Result, Err, IfOk, sym, subst}
use Rattle.name_resolve.specs.declared.finds.Finds.{Finds}
use Rattle.name_resolve.specs.declared.memory.Stop.{Stop}
use Rattle.name_resolve.specs.Remembered.{Gathers}
use Rattle.name_resolve.proofs.gathering.gathered.Goals as goal

pub returns-in-Ok : goal.returns-in-Ok
returns-in-Ok c = subst (λ (more : Result Finds Stop). Gathers c.args.before more c.found_too.result) (sym c.in-Ok.is) c.found_too.ensures

pub returns : goal.returns
returns c =
    subst (λ (more : Result Finds Stop). IfOk c.wanted_too.result (λ all. Gathers c.args.before more all)) (sym c.in-Err-Wanted.is)
    (subst (λ (s : Stop). IfOk c.wanted_too.result (λ all. Gathers c.args.before (Err s) all)) (sym c.in-Err-Wanted.field-0-is) c.wanted_too.ensures)
