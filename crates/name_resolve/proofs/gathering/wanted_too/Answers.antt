use Rattle.std.proofs.Common.{Result, Err, Vec, Global, sym, subst, refl}
use Rattle.name_resolve.specs.declared.finds.Finds.{Finds}
use Rattle.name_resolve.specs.declared.memory.Stop.TheVariants as stop
use Rattle.name_resolve.specs.declared.memory.Wanted.{Wanted}
use Rattle.name_resolve.specs.Remembered.{Gathers}
use Rattle.name_resolve.proofs.gathering.wanted_too.Goals as goal

pub returns-in-Ok : goal.returns-in-Ok
returns-in-Ok c = subst (λ (b : Result Finds (Vec Wanted Global)). Gathers b (Err (stop.Wanted c.args.more)) (Err c.args.more)) (sym c.in-Ok.is) refl

pub returns : goal.returns
returns c =
    subst (λ (b : Result Finds (Vec Wanted Global)). Gathers b (Err (stop.Wanted c.args.more)) (Err c.in_ok-all-in-Err.all)) (sym c.in-Err.is) c.in_ok-all-in-Err.ensures
