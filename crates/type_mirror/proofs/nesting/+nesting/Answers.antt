use Rattle.std.proofs.Common.{◌≡◌, ℕ, List, map, max, ap, arith}
use Rattle.type_mirror.specs.declared.mirror.Mirror.{Mirror}
use Rattle.type_mirror.specs.Nesting.{deepest, capped, nesting, declared_nestings}
use Rattle.type_mirror.proofs.Nestings.{deepest-declared-Some}
use Rattle.type_mirror.proofs.nesting.+nesting.Goals as goal

pub declared_depth-returns-in-Some : goal.declared_depth-returns-in-Some
declared_depth-returns-in-Some t c =
    let whole = deepest-declared-Some c.args.declared.now c.in-Some.mirror c.in-Some.is in
    let enclosing = ap nesting c.get.ensures in
    let arguments = ap (λ (list : List Mirror). deepest (map nesting list)) c.as_slice.ensures in
    omega (arith, whole, enclosing, arguments)
