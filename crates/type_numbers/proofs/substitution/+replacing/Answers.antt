use Rattle.std.proofs.Common.{◌<◌, ◌+◌, ℕ, List, IfOk, get_or, map, take, sym, ap, subst, ◌∙◌, arith}
use Rattle.std.specs.List.{AllByRecursion}
use Rattle.type_layers.specs.Layers.{parts_of}
use Rattle.type_mirror.specs.declared.mirror.Mirror.{Mirror}
use Rattle.type_numbers.specs.declared.node.Node.{Node}
use Rattle.type_numbers.specs.Nodes.{layer_of}
use Rattle.type_numbers.specs.Numbers.{Stands, AllStand}
use Rattle.type_numbers.proofs.AddedTypes.{executable-split, executable-known}
use Rattle.type_numbers.proofs.LayerMaps.{all-at}
use Rattle.type_numbers.proofs.NumberLaws.{grown-known, grows-on}
use Rattle.type_numbers.proofs.RememberedValues.{each-found, each-more, each-same}
use Rattle.type_numbers.specs.Replaced.{IsMade, replaced_at, replaced_node, all_replaced}
use Rattle.type_numbers.proofs.ReplacedSteps.{known-below, all_known-below, grown-known_in, grown-replaced, grown-remembers, replaced-node, declared-split, declared-replaced, executable-replaced, all-dropped, each-next}
use Rattle.type_numbers.proofs.substitution.+replacing.Goals as goal

pub replaced-returns-in-Some-clause-stands : goal.replaced-returns-in-Some-clause-stands
replaced-returns-in-Some-clause-stands t c =
    (each-found (IsMade c.args.types.now c.args.by.now) c.args.done.now c.args.number c.in-Some.made.now c.requires.so_far (sym c.in-Some.ensures.value)).1

pub replaced-replaced_node-requires : goal.replaced-replaced_node-requires
replaced-replaced_node-requires t c = (
  omega (arith, c.decreases),
  (
    c.requires.known,
    (
      subst (λ (n : Node). AllByRecursion (λ part. part < c.args.number) (parts_of (layer_of n))) (sym c.in_ok-node.ensures) c.node.ensures.below,
      (c.requires.by, c.requires.so_far),
    ),
  ),
)

pub replaced-returns-in_err-insert-clause-so_far : goal.replaced-returns-in_err-insert-clause-so_far
replaced-returns-in_err-insert-clause-so_far t c =
    each-same (IsMade c.replaced_node.new.types c.args.by.now) c.replaced_node.new.done c.insert.new.self c.in_err-insert.ensures.err c.in_ok-made.ensures.so_far

pub replaced-returns-clause-stands : goal.replaced-returns-clause-stands
replaced-returns-clause-stands t c =
    subst (λ (m : Mirror). Stands c.replaced_node.new.types c.in_ok-made.made m)
    (replaced-node c.args.types.now c.args.by.now c.args.number c.node.result.now c.in_ok-node.node c.in_ok-node.ensures c.node.ensures.exact) c.in_ok-made.ensures.stands

pub replaced-returns-clause-so_far : goal.replaced-returns-clause-so_far
replaced-returns-clause-so_far t c =
    let was = c.args.types.now in
    let now = c.replaced_node.new.types in
    let same = replaced-node was c.args.by.now c.args.number c.node.result.now c.in_ok-node.node c.in_ok-node.ensures c.node.ensures.exact
    ∙ sym (grown-replaced was now c.args.by.now c.args.number c.in_ok-made.ensures.grows c.requires.by c.requires.known) in
    each-more (IsMade now c.args.by.now) c.replaced_node.new.done c.insert.new.self c.args.number c.in_ok-made.made c.in_ok-made.ensures.so_far
    (λ q. c.in_ok-insert.ensures.updates.0 q) (
      grown-known was now c.args.number c.in_ok-made.ensures.grows c.requires.known,
      subst (λ (m : Mirror). Stands now c.in_ok-made.made m) same c.in_ok-made.ensures.stands,
    )

pub replaced_each-loop-number-preserved : goal.replaced_each-loop-number-preserved
replaced_each-loop-number-preserved t c =
    let was = c.args.types.now in
    let numbers = c.args.numbers.now in
    let i = c.loop-number.number-index in
    let less = all-at (λ part. part < c.args.below) numbers i 0 c.requires.fall c.loop-number-test.true in
    let next = each-next was c.loop-number.types c.replaced.new.types c.args.by.now numbers i c.in_ok-made.made c.loop-number.all c.loop-number.invariant.grows c.requires.by
    (known-below was c.args.below (get_or numbers i 0) c.requires.known less) c.loop-number-test.true c.loop-number.invariant.stand c.in_ok-made.ensures.grows
    c.in_ok-made.ensures.stands in
    record {
      stand = subst (λ (ns : List ℕ). AllStand c.replaced.new.types ns (map (replaced_at was c.args.by.now) (take (i + 1) numbers))) (sym c.in_ok-push.ensures.ok) next;
      grows = grows-on was c.loop-number.types c.replaced.new.types c.loop-number.invariant.grows c.in_ok-made.ensures.grows;
      so_far = c.in_ok-made.ensures.so_far;
      left = all-dropped (λ part. part < c.args.below) numbers (i + 1) c.requires.fall;
    }

pub replaced_node-replaced_each-requires : goal.replaced_node-replaced_each-requires
replaced_node-replaced_each-requires t c =
    let parts = declared-split (λ part. part < c.args.below) c.args.node c.in-Declared.element c.in-Declared.enclosing c.in-Declared.arguments c.in-Declared.is c.requires.fall in
    let grows = c.in_ok-enclosing-in-Declared.ensures.grows in (
      omega (arith, c.decreases),
      (
        grown-known c.args.types.now c.replaced_optional.new.types c.args.below grows c.requires.known,
        (
          subst (AllByRecursion (λ part. part < c.args.below)) (sym c.as_slice.ensures) parts.1,
          (grown-known_in c.args.types.now c.replaced_optional.new.types c.args.by.now grows c.requires.by, c.in_ok-enclosing-in-Declared.ensures.so_far),
        ),
      ),
    )

pub replaced_node-replaced_each-requires-in-Executable : goal.replaced_node-replaced_each-requires-in-Executable
replaced_node-replaced_each-requires-in-Executable t c =
    let parts = executable-split (λ part. part < c.args.below) c.args.node c.in-Executable.variables c.in-Executable.parameters c.in-Executable.outcome c.in-Executable.thrown
    c.in-Executable.is c.requires.fall in (
      omega (arith, c.decreases),
      (c.requires.known, (subst (AllByRecursion (λ part. part < c.args.below)) (sym c.as_slice-in-Executable.ensures) parts.0, (c.requires.by, c.requires.so_far))),
    )

pub replaced_node-replaced-requires-in-Executable : goal.replaced_node-replaced-requires-in-Executable
replaced_node-replaced-requires-in-Executable t c =
    let parts = executable-split (λ part. part < c.args.below) c.args.node c.in-Executable.variables c.in-Executable.parameters c.in-Executable.outcome c.in-Executable.thrown
    c.in-Executable.is c.requires.fall in
    let less : c.in-Executable.outcome < c.args.below = parts.1.0 in
    let now = c.replaced_each-in-Executable.new.types in
    let grows = c.in_ok-parameters-in-Executable.ensures.grows in (
      omega (arith, c.decreases),
      (
        known-below now c.args.below c.in-Executable.outcome (grown-known c.args.types.now now c.args.below grows c.requires.known) less,
        (grown-known_in c.args.types.now now c.args.by.now grows c.requires.by, c.in_ok-parameters-in-Executable.ensures.so_far),
      ),
    )

pub replaced_node-replaced_each-requires-in-Executable-2 : goal.replaced_node-replaced_each-requires-in-Executable-2
replaced_node-replaced_each-requires-in-Executable-2 t c =
    let parts = executable-split (λ part. part < c.args.below) c.args.node c.in-Executable.variables c.in-Executable.parameters c.in-Executable.outcome c.in-Executable.thrown
    c.in-Executable.is c.requires.fall in
    let now = c.replaced-in-Executable.new.types in
    let grows = grows-on c.args.types.now c.replaced_each-in-Executable.new.types now c.in_ok-parameters-in-Executable.ensures.grows c.in_ok-outcome-in-Executable.ensures.grows in (
      omega (arith, c.decreases),
      (
        grown-known c.args.types.now now c.args.below grows c.requires.known,
        (
          subst (AllByRecursion (λ part. part < c.args.below)) (sym c.as_slice-in-Executable-2.ensures) parts.1.1,
          (grown-known_in c.args.types.now now c.args.by.now grows c.requires.by, c.in_ok-outcome-in-Executable.ensures.so_far),
        ),
      ),
    )

pub replaced_node-intern-requires-in-Executable : goal.replaced_node-intern-requires-in-Executable
replaced_node-intern-requires-in-Executable t c =
    let by = c.args.by.now in
    let first = c.replaced_each-in-Executable.new.types in
    let second = c.replaced-in-Executable.new.types in
    executable-known first second c.replaced_each-in-Executable-2.new.types c.in_ok-parameters-in-Executable.parameters
    (all_replaced c.args.types.now by c.as_slice-in-Executable.result.now) c.in_ok-outcome-in-Executable.outcome (replaced_at first by c.in-Executable.outcome)
    c.in_ok-thrown-in-Executable.thrown (all_replaced second by c.as_slice-in-Executable-2.result.now) c.in_ok-parameters-in-Executable.ensures.stands
    c.in_ok-outcome-in-Executable.ensures.grows c.in_ok-outcome-in-Executable.ensures.stands c.in_ok-thrown-in-Executable.ensures.grows c.in_ok-thrown-in-Executable.ensures.stands

pub replaced_node-returns-in_ok-arguments-in-Declared-clause-stands : goal.replaced_node-returns-in_ok-arguments-in-Declared-clause-stands
replaced_node-returns-in_ok-arguments-in-Declared-clause-stands t c =
    let was = c.args.types.now in
    let by = c.args.by.now in
    let first = c.replaced_optional.new.types in
    let last = c.replaced_each.new.types in
    let parts = declared-split (λ part. part < c.args.below) c.args.node c.in-Declared.element c.in-Declared.enclosing c.in-Declared.arguments c.in-Declared.is c.requires.fall in
    let stand = subst (λ (ns : List ℕ). AllStand last c.in_ok-arguments-in-Declared.arguments (map (replaced_at first by) ns)) c.as_slice.ensures
    c.in_ok-arguments-in-Declared.ensures.stands in
    let made = declared-replaced was first last by c.in-Declared.element c.in-Declared.enclosing c.in_ok-enclosing-in-Declared.enclosing c.in-Declared.arguments
    c.in_ok-arguments-in-Declared.arguments c.requires.by (all_known-below was c.args.below c.in-Declared.arguments c.requires.known parts.1)
    c.in_ok-enclosing-in-Declared.ensures.grows c.in_ok-enclosing-in-Declared.ensures.stands c.in_ok-arguments-in-Declared.ensures.grows stand in
    subst (λ (m : Mirror). IfOk c.intern.result (λ n. Stands c.intern.new.self n m)) (made ∙ ap (replaced_node was by) (sym c.in-Declared.is)) c.intern.ensures.stands

pub replaced_node-returns-in_ok-thrown-in-Executable-clause-stands : goal.replaced_node-returns-in_ok-thrown-in-Executable-clause-stands
replaced_node-returns-in_ok-thrown-in-Executable-clause-stands t c =
    let was = c.args.types.now in
    let by = c.args.by.now in
    let first = c.replaced_each-in-Executable.new.types in
    let second = c.replaced-in-Executable.new.types in
    let last = c.replaced_each-in-Executable-2.new.types in
    let parts = executable-split (λ part. part < c.args.below) c.args.node c.in-Executable.variables c.in-Executable.parameters c.in-Executable.outcome c.in-Executable.thrown
    c.in-Executable.is c.requires.fall in
    let parameters = subst (λ (ns : List ℕ). AllStand first c.in_ok-parameters-in-Executable.parameters (map (replaced_at was by) ns)) c.as_slice-in-Executable.ensures
    c.in_ok-parameters-in-Executable.ensures.stands in
    let thrown = subst (λ (ns : List ℕ). AllStand last c.in_ok-thrown-in-Executable.thrown (map (replaced_at second by) ns)) c.as_slice-in-Executable-2.ensures
    c.in_ok-thrown-in-Executable.ensures.stands in
    let made = executable-replaced was first second last by c.in-Executable.variables c.in-Executable.parameters c.in_ok-parameters-in-Executable.parameters c.in-Executable.outcome
    c.in_ok-outcome-in-Executable.outcome c.in-Executable.thrown c.in_ok-thrown-in-Executable.thrown c.requires.by
    (all_known-below was c.args.below c.in-Executable.thrown c.requires.known parts.1.1) (known-below was c.args.below c.in-Executable.outcome c.requires.known parts.1.0)
    c.in_ok-parameters-in-Executable.ensures.grows parameters c.in_ok-outcome-in-Executable.ensures.grows c.in_ok-outcome-in-Executable.ensures.stands
    c.in_ok-thrown-in-Executable.ensures.grows thrown in
    subst (λ (m : Mirror). IfOk c.intern-in-Executable.result (λ n. Stands c.intern-in-Executable.new.self n m)) (made ∙ ap (replaced_node was by) (sym c.in-Executable.is))
    c.intern-in-Executable.ensures.stands

-- ---- what is remembered stays where one type is added

pub replaced_node-returns-in-Variable-clause-so_far : goal.replaced_node-returns-in-Variable-clause-so_far
replaced_node-returns-in-Variable-clause-so_far t c =
    grown-remembers c.args.types.now c.replaced_variable.new.types c.args.by.now c.args.done.now c.replaced_variable.ensures.grows c.requires.by c.requires.so_far

pub replaced_node-returns-in_ok-arguments-in-Declared-clause-so_far : goal.replaced_node-returns-in_ok-arguments-in-Declared-clause-so_far
replaced_node-returns-in_ok-arguments-in-Declared-clause-so_far t c =
    let grows = grows-on c.args.types.now c.replaced_optional.new.types c.replaced_each.new.types c.in_ok-enclosing-in-Declared.ensures.grows c.in_ok-arguments-in-Declared.ensures.grows in
    grown-remembers c.replaced_each.new.types c.intern.new.self c.args.by.now c.replaced_each.new.done c.intern.ensures.grows
    (grown-known_in c.args.types.now c.replaced_each.new.types c.args.by.now grows c.requires.by) c.in_ok-arguments-in-Declared.ensures.so_far

pub replaced_node-returns-in_ok-thrown-in-Executable-clause-so_far : goal.replaced_node-returns-in_ok-thrown-in-Executable-clause-so_far
replaced_node-returns-in_ok-thrown-in-Executable-clause-so_far t c =
    let was = c.args.types.now in
    let first = c.replaced_each-in-Executable.new.types in
    let second = c.replaced-in-Executable.new.types in
    let last = c.replaced_each-in-Executable-2.new.types in
    let grows = grows-on was first last c.in_ok-parameters-in-Executable.ensures.grows
    (grows-on first second last c.in_ok-outcome-in-Executable.ensures.grows c.in_ok-thrown-in-Executable.ensures.grows) in
    grown-remembers last c.intern-in-Executable.new.self c.args.by.now c.replaced_each-in-Executable-2.new.done c.intern-in-Executable.ensures.grows
    (grown-known_in was last c.args.by.now grows c.requires.by) c.in_ok-thrown-in-Executable.ensures.so_far

pub replaced_node-returns-in_ok-item-in-Array-clause-so_far : goal.replaced_node-returns-in_ok-item-in-Array-clause-so_far
replaced_node-returns-in_ok-item-in-Array-clause-so_far t c =
    let now = c.replaced.new.types in
    grown-remembers now c.intern-in-Array.new.self c.args.by.now c.replaced.new.done c.intern-in-Array.ensures.grows
    (grown-known_in c.args.types.now now c.args.by.now c.in_ok-item-in-Array.ensures.grows c.requires.by) c.in_ok-item-in-Array.ensures.so_far

pub replaced_node-returns-in_ok-bound-in-Extends-clause-so_far : goal.replaced_node-returns-in_ok-bound-in-Extends-clause-so_far
replaced_node-returns-in_ok-bound-in-Extends-clause-so_far t c =
    let now = c.replaced-in-Extends.new.types in
    grown-remembers now c.intern-in-Extends.new.self c.args.by.now c.replaced-in-Extends.new.done c.intern-in-Extends.ensures.grows
    (grown-known_in c.args.types.now now c.args.by.now c.in_ok-bound-in-Extends.ensures.grows c.requires.by) c.in_ok-bound-in-Extends.ensures.so_far

pub replaced_node-returns-in_ok-bound-in-Super-clause-so_far : goal.replaced_node-returns-in_ok-bound-in-Super-clause-so_far
replaced_node-returns-in_ok-bound-in-Super-clause-so_far t c =
    let now = c.replaced-in-Super.new.types in
    grown-remembers now c.intern-in-Super.new.self c.args.by.now c.replaced-in-Super.new.done c.intern-in-Super.ensures.grows
    (grown-known_in c.args.types.now now c.args.by.now c.in_ok-bound-in-Super.ensures.grows c.requires.by) c.in_ok-bound-in-Super.ensures.so_far

pub replaced_node-returns-in-Primitive-clause-so_far : goal.replaced_node-returns-in-Primitive-clause-so_far
replaced_node-returns-in-Primitive-clause-so_far t c =
    grown-remembers c.args.types.now c.intern-in-Primitive.new.self c.args.by.now c.args.done.now c.intern-in-Primitive.ensures.grows c.requires.by c.requires.so_far

pub replaced_node-returns-in-Error-clause-so_far : goal.replaced_node-returns-in-Error-clause-so_far
replaced_node-returns-in-Error-clause-so_far t c =
    grown-remembers c.args.types.now c.intern-in-Error.new.self c.args.by.now c.args.done.now c.intern-in-Error.ensures.grows c.requires.by c.requires.so_far

pub replaced_node-returns-in-Unbounded-clause-so_far : goal.replaced_node-returns-in-Unbounded-clause-so_far
replaced_node-returns-in-Unbounded-clause-so_far t c =
    grown-remembers c.args.types.now c.intern-in-Unbounded.new.self c.args.by.now c.args.done.now c.intern-in-Unbounded.ensures.grows c.requires.by c.requires.so_far

pub replaced_node-returns-in-Nothing-clause-so_far : goal.replaced_node-returns-in-Nothing-clause-so_far
replaced_node-returns-in-Nothing-clause-so_far t c =
    grown-remembers c.args.types.now c.intern-in-Nothing.new.self c.args.by.now c.args.done.now c.intern-in-Nothing.ensures.grows c.requires.by c.requires.so_far

pub replaced_node-returns-in-Void-clause-so_far : goal.replaced_node-returns-in-Void-clause-so_far
replaced_node-returns-in-Void-clause-so_far t c =
    grown-remembers c.args.types.now c.intern-in-Void.new.self c.args.by.now c.args.done.now c.intern-in-Void.ensures.grows c.requires.by c.requires.so_far

pub replaced_node-returns-in-Null-clause-so_far : goal.replaced_node-returns-in-Null-clause-so_far
replaced_node-returns-in-Null-clause-so_far t c =
    grown-remembers c.args.types.now c.intern-in-Null.new.self c.args.by.now c.args.done.now c.intern-in-Null.ensures.grows c.requires.by c.requires.so_far

pub replaced_node-returns-in-Package-clause-so_far : goal.replaced_node-returns-in-Package-clause-so_far
replaced_node-returns-in-Package-clause-so_far t c =
    grown-remembers c.args.types.now c.intern-in-Package.new.self c.args.by.now c.args.done.now c.intern-in-Package.ensures.grows c.requires.by c.requires.so_far
