use Rattle.std.proofs.Common.{Result, Ok, Err, Vec, Global, sym, subst, refl}
use Rattle.name_resolve.specs.declared.finds.Finds.{Finds}
use Rattle.name_resolve.specs.declared.memory.Wanted.{Wanted}
use Rattle.name_resolve.specs.Remembered.{Gathers}
use Rattle.name_resolve.proofs.gathering.found_too.Goals as goal

pub returns-in-Ok : goal.returns-in-Ok
returns-in-Ok c = subst (λ (b : Result Finds (Vec Wanted Global)). Gathers b (Ok c.args.finds) (Ok c.both.result)) (sym c.in-Ok.is) c.both.ensures

pub returns : goal.returns
returns c = subst (λ (b : Result Finds (Vec Wanted Global)). Gathers b (Ok c.args.finds) (Err c.in-Err.wanted)) (sym c.in-Err.is) refl
