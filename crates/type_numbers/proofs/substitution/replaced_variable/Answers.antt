use Rattle.std.proofs.Common.{IfOk, sym, subst}
use Rattle.type_mirror.specs.declared.mirror.Mirror.{Mirror}
use Rattle.type_numbers.specs.Numbers.{Stands}
use Rattle.type_numbers.proofs.ReplacedSteps.{stands-for, stays-without}
use Rattle.type_numbers.proofs.substitution.replaced_variable.Goals as goal

pub returns-in-Some-clause-stands : goal.returns-in-Some-clause-stands
returns-in-Some-clause-stands c = stands-for c.args.types.now c.args.by.now c.args.element c.in-Some.number c.requires (sym c.in-Some.ensures)

pub returns-in-None-clause-stands : goal.returns-in-None-clause-stands
returns-in-None-clause-stands c =
    subst (λ (m : Mirror). IfOk c.intern.result (λ n. Stands c.intern.new.self n m)) (stays-without c.args.types.now c.args.by.now c.args.element (sym c.in-None.ensures))
    c.intern.ensures.stands
