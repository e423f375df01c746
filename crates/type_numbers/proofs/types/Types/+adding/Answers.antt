use Rattle.std.proofs.Common.{◌≡◌, ◌+◌, ◌∷◌, [], ◌++◌, List, IfOk, take, sym, subst, ◌∙◌}
use Rattle.type_mirror.specs.declared.mirror.Mirror.{Mirror}
use Rattle.type_numbers.specs.Numbers.{Stands, AllStand}
use Rattle.type_numbers.proofs.NumberLaws.{take-next, all-next, grows-on}
use Rattle.type_numbers.proofs.AddedTypes.{declared-added, executable-added, executable-known}
use Rattle.type_numbers.proofs.types.Types.+adding.Goals as goal

pub add_declared-returns-clause-stands : goal.add_declared-returns-clause-stands
add_declared-returns-clause-stands t c =
    subst (λ (m : Mirror). IfOk c.intern.result (λ number. Stands c.intern.new.self number m))
    (declared-added c.add_optional.new.self c.add_each.new.self c.args.declared.now c.in_ok-element.element c.in_ok-enclosing.enclosing c.in_ok-arguments.arguments c.as_slice.result.now
    c.in_ok-element.ensures c.in_ok-enclosing.ensures.stands c.in_ok-arguments.ensures.grows c.in_ok-arguments.ensures.stands c.as_slice.ensures)
    c.intern.ensures.stands

pub add_each-loop-each-preserved : goal.add_each-loop-each-preserved
add_each-loop-each-preserved t c =
    let more : take (c.loop-each.each-index + 1) c.args.mirrors.now ≡ take c.loop-each.each-index c.args.mirrors.now ++ c.each-item.result ∷ [] =
    take-next c.args.mirrors.now c.loop-each.each-index c.each-item.result c.loop-each-test.true c.each-item.is in
    let next = all-next c.loop-each.self c.add.new.self c.loop-each.numbers (take c.loop-each.each-index c.args.mirrors.now) c.in_ok-number.number c.each-item.result
    c.in_ok-number.ensures.grows c.loop-each.invariant.stand c.in_ok-number.ensures.stands in
    record {
      stand = subst (λ (ms : List Mirror). AllStand c.add.new.self c.push.new.self ms) (sym more)
          (subst (λ ns. AllStand c.add.new.self ns (take c.loop-each.each-index c.args.mirrors.now ++ c.each-item.result ∷ [])) (sym c.in_ok-push.ensures.ok) next);
      grows = grows-on c.args.self.now c.loop-each.self c.add.new.self c.loop-each.invariant.grows c.in_ok-number.ensures.grows;
    }

pub add_executable-intern-requires : goal.add_executable-intern-requires
add_executable-intern-requires t c =
    executable-known c.add_each.new.self c.add.new.self c.add_each-2.new.self c.in_ok-parameters.parameters c.as_slice-2.result.now c.in_ok-outcome.outcome c.get.result.now
    c.in_ok-thrown.thrown c.as_slice-3.result.now c.in_ok-parameters.ensures.stands c.in_ok-outcome.ensures.grows c.in_ok-outcome.ensures.stands c.in_ok-thrown.ensures.grows
    c.in_ok-thrown.ensures.stands

pub add_executable-returns-clause-stands : goal.add_executable-returns-clause-stands
add_executable-returns-clause-stands t c =
    subst (λ (m : Mirror). IfOk c.intern.result (λ number. Stands c.intern.new.self number m))
    (executable-added c.add_each.new.self c.add.new.self c.add_each-2.new.self c.args.executable.now c.in_ok-variables.variables c.in_ok-parameters.parameters c.as_slice-2.result.now
    c.in_ok-outcome.outcome c.get.result.now c.in_ok-thrown.thrown c.as_slice-3.result.now (c.in_ok-variables.ensures ∙ c.as_slice.ensures) c.in_ok-parameters.ensures.stands
    c.as_slice-2.ensures c.in_ok-outcome.ensures.grows c.in_ok-outcome.ensures.stands c.get.ensures c.in_ok-thrown.ensures.grows c.in_ok-thrown.ensures.stands c.as_slice-3.ensures)
    c.intern.ensures.stands
