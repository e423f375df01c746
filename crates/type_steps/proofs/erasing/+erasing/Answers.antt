use Rattle.std.proofs.Common.{◌<◌, ◌+◌, ℕ, List, Option, Some, None, get_or, sym, ap, subst, ◌∙◌, arith}
use Rattle.std.specs.List.{AllByRecursion}
use Rattle.apt_base.specs.declared.element.ElementRef.{ElementRef}
use Rattle.apt_base.specs.Limits.{max_type_steps}
use Rattle.type_layers.specs.Layers.{Executable}
use Rattle.type_numbers.specs.Numbers.{IsKnown, Stands, OptionStands, mirror_with}
use Rattle.type_numbers.proofs.AddedTypes.{executable-split}
use Rattle.type_numbers.proofs.LayerMaps.{all-at}
use Rattle.type_numbers.proofs.NumberLaws.{grown-known, grows-itself, grows-on}
use Rattle.type_relations.specs.Erasure.{erasure}
use Rattle.type_numbers.proofs.ReplacedSteps.{known-below, all_known-below}
use Rattle.type_steps.specs.Supertypes.{AllMayStand, erasure_at, erasures_at}
use Rattle.type_steps.proofs.LayersOfNumbers.{copy-shows, node-falls}
use Rattle.type_steps.proofs.ErasuresByLayers.{AreErased, optional-same, erased-Declared, erased-Variable, erased-Unbounded, erased-Super, erased-Executable, erased-itself, erased-next, executable-parts, first-open, second-open, third-open, all-there}
use Rattle.type_steps.proofs.erasing.+erasing.Goals as goal

pub erasures-loop-part-preserved : goal.erasures-loop-part-preserved
erasures-loop-part-preserved t c =
    let was = c.args.types.now in
    let now = c.erasure_of.new.types in
    let parts = c.args.parts.now in
    let i = c.loop-part.part-index in
    let less : get_or parts i 0 < c.args.below = all-at (λ part. part < c.args.below) parts i 0 c.requires.fall c.loop-part-test.true in
    let known : IsKnown was (get_or parts i 0) = omega (arith, less, c.requires.known) in
    let stands = subst (λ (o : Option ℕ). OptionStands now o (erasure_at c.args.table.now c.loop-part.types (get_or parts i 0))) c.in-Some.is c.in_ok-erasure_of.ensures.stands in
    let next = erased-next c.args.table.now was c.loop-part.types now parts c.loop-part.list i c.in-Some.one c.loop-part-test.true c.loop-part.invariant.erased
    c.loop-part.invariant.grows c.in_ok-erasure_of.ensures.grows known stands in
    record {
      erased = subst (λ (ns : List ℕ). AreErased c.args.table.now was now parts ns (i + 1)) (sym c.in_ok-push-in-Some.ensures.ok) next;
      grows = grows-on was c.loop-part.types now c.loop-part.invariant.grows c.in_ok-erasure_of.ensures.grows;
    }

pub of_item-returns-in-Declared-clause-stands : goal.of_item-returns-in-Declared-clause-stands
of_item-returns-in-Declared-clause-stands t c =
    let exact = copy-shows c.args.types.now c.args.number c.node.result.now c.in_ok-node.node c.in_ok-node.ensures c.node.ensures.exact in
    optional-same c.bare_class.result c.bare_class.new.types _ _
    (erased-Declared c.args.table.now c.args.types.now c.args.number c.in_ok-node.node exact c.in-Declared.element _ _ c.in-Declared.is) c.bare_class.ensures.stands

pub of_item-returns-in-Variable-clause-stands : goal.of_item-returns-in-Variable-clause-stands
of_item-returns-in-Variable-clause-stands t c =
    let exact = copy-shows c.args.types.now c.args.number c.node.result.now c.in_ok-node.node c.in_ok-node.ensures c.node.ensures.exact in
    optional-same c.of_mirror.result c.of_mirror.new.types _ _
    (ap (erasure c.args.table.now max_type_steps) c.plain-mirror.ensures
    ∙ erased-Variable c.args.table.now c.args.types.now c.args.number c.in_ok-node.node exact c.in-Variable.element c.in-Variable.is)
    c.of_mirror.ensures.stands

pub of_item-returns-in-Unbounded-clause-stands : goal.of_item-returns-in-Unbounded-clause-stands
of_item-returns-in-Unbounded-clause-stands t c =
    let exact = copy-shows c.args.types.now c.args.number c.node.result.now c.in_ok-node.node c.in_ok-node.ensures c.node.ensures.exact in
    optional-same c.of_mirror-in-Unbounded.result c.of_mirror-in-Unbounded.new.types _ _
    (ap (erasure c.args.table.now max_type_steps) c.plain.ensures
    ∙ erased-Unbounded c.args.table.now c.args.types.now c.args.number c.in_ok-node.node exact c.in-Unbounded.is)
    c.of_mirror-in-Unbounded.ensures.stands

pub of_item-returns-in-Super-clause-stands : goal.of_item-returns-in-Super-clause-stands
of_item-returns-in-Super-clause-stands t c =
    let exact = copy-shows c.args.types.now c.args.number c.node.result.now c.in_ok-node.node c.in_ok-node.ensures c.node.ensures.exact in
    optional-same c.of_mirror-in-Super.result c.of_mirror-in-Super.new.types _ _
    (ap (erasure c.args.table.now max_type_steps) c.plain-in-Super.ensures
    ∙ erased-Super c.args.table.now c.args.types.now c.args.number c.in_ok-node.node exact _ c.in-Super.is)
    c.of_mirror-in-Super.ensures.stands

pub of_item-erasures-requires : goal.of_item-erasures-requires
of_item-erasures-requires t c =
    let fall = node-falls c.args.number c.node.result.now c.in_ok-node.node c.node.ensures.below (sym c.in_ok-node.ensures) in
    let parts = executable-split (λ part. part < c.args.number) c.in_ok-node.node _ c.in-Executable.parameters c.in-Executable.outcome c.in-Executable.thrown c.in-Executable.is fall in
    (omega (arith, c.decreases), (c.requires.known, subst (AllByRecursion (λ part. part < c.args.number)) (sym c.as_slice.ensures) parts.0))

pub of_item-returns-in_default-parameters-clause-stands : goal.of_item-returns-in_default-parameters-clause-stands
of_item-returns-in_default-parameters-clause-stands t c =
    let table = c.args.table.now in
    let was = c.args.types.now in
    let one = c.erasures.new.types in
    let exact = copy-shows c.args.types.now c.args.number c.node.result.now c.in_ok-node.node c.in_ok-node.ensures c.node.ensures.exact in
    let whole = erased-Executable c.args.table.now c.args.types.now c.args.number c.in_ok-node.node exact _ c.in-Executable.parameters c.in-Executable.outcome c.in-Executable.thrown
    c.in-Executable.is in
    let none = subst (λ (o : Option (List ℕ)). AllMayStand one o (erasures_at table was c.as_slice.result.now)) c.in_default-parameters.is c.in_ok-parameters-in-Executable.ensures.stands in
    first-open table was c.in-Executable.parameters c.in-Executable.outcome c.in-Executable.thrown _ whole one (subst (λ (ns : List ℕ). AllMayStand one None (erasures_at table was ns)) c.as_slice.ensures none)

pub of_item-erasure_of-requires : goal.of_item-erasure_of-requires
of_item-erasure_of-requires t c =
    let fall = node-falls c.args.number c.node.result.now c.in_ok-node.node c.node.ensures.below (sym c.in_ok-node.ensures) in
    let parts = executable-split (λ part. part < c.args.number) c.in_ok-node.node _ c.in-Executable.parameters c.in-Executable.outcome c.in-Executable.thrown c.in-Executable.is fall in
    let less : c.in-Executable.outcome < c.args.number = parts.1.0 in (
      omega (arith, c.decreases, less),
      grown-known c.args.types.now c.erasures.new.types c.in-Executable.outcome c.in_ok-parameters-in-Executable.ensures.grows (known-below c.args.types.now c.args.number c.in-Executable.outcome c.requires.known less),
    )

pub of_item-returns-in_default-2-clause-stands : goal.of_item-returns-in_default-2-clause-stands
of_item-returns-in_default-2-clause-stands t c =
    let table = c.args.table.now in
    let was = c.args.types.now in
    let one = c.erasures.new.types in
    let two = c.erasure_of.new.types in
    let exact = copy-shows c.args.types.now c.args.number c.node.result.now c.in_ok-node.node c.in_ok-node.ensures c.node.ensures.exact in
    let whole = erased-Executable c.args.table.now c.args.types.now c.args.number c.in_ok-node.node exact _ c.in-Executable.parameters c.in-Executable.outcome c.in-Executable.thrown
    c.in-Executable.is in
    let fall = node-falls c.args.number c.node.result.now c.in_ok-node.node c.node.ensures.below (sym c.in_ok-node.ensures) in
    let parts = executable-split (λ part. part < c.args.number) c.in_ok-node.node _ c.in-Executable.parameters c.in-Executable.outcome c.in-Executable.thrown c.in-Executable.is fall in
    let none = subst (λ (o : Option ℕ). OptionStands two o (erasure_at table one c.in-Executable.outcome)) c.in_default-2.is c.in_ok-outcome-in-Executable.ensures.stands in
    second-open table was c.in-Executable.parameters c.in-Executable.outcome c.in-Executable.thrown _ whole one two c.in_ok-parameters-in-Executable.ensures.grows
    (known-below was c.args.number c.in-Executable.outcome c.requires.known parts.1.0) none

pub of_item-erasures-requires-in-Executable : goal.of_item-erasures-requires-in-Executable
of_item-erasures-requires-in-Executable t c =
    let fall = node-falls c.args.number c.node.result.now c.in_ok-node.node c.node.ensures.below (sym c.in_ok-node.ensures) in
    let parts = executable-split (λ part. part < c.args.number) c.in_ok-node.node _ c.in-Executable.parameters c.in-Executable.outcome c.in-Executable.thrown c.in-Executable.is fall in
    let grows = grows-on c.args.types.now c.erasures.new.types c.erasure_of.new.types c.in_ok-parameters-in-Executable.ensures.grows c.in_ok-outcome-in-Executable.ensures.grows in (
      omega (arith, c.decreases),
      (
        grown-known c.args.types.now c.erasure_of.new.types c.args.number grows c.requires.known,
        subst (AllByRecursion (λ part. part < c.args.number)) (sym c.as_slice-in-Executable.ensures) parts.1.1,
      ),
    )

pub of_item-returns-in_default-thrown-clause-stands : goal.of_item-returns-in_default-thrown-clause-stands
of_item-returns-in_default-thrown-clause-stands t c =
    let table = c.args.table.now in
    let was = c.args.types.now in
    let one = c.erasures.new.types in
    let two = c.erasure_of.new.types in
    let three = c.erasures-in-Executable.new.types in
    let exact = copy-shows c.args.types.now c.args.number c.node.result.now c.in_ok-node.node c.in_ok-node.ensures c.node.ensures.exact in
    let whole = erased-Executable c.args.table.now c.args.types.now c.args.number c.in_ok-node.node exact _ c.in-Executable.parameters c.in-Executable.outcome c.in-Executable.thrown
    c.in-Executable.is in
    let fall = node-falls c.args.number c.node.result.now c.in_ok-node.node c.node.ensures.below (sym c.in_ok-node.ensures) in
    let parts = executable-split (λ part. part < c.args.number) c.in_ok-node.node _ c.in-Executable.parameters c.in-Executable.outcome c.in-Executable.thrown c.in-Executable.is fall in
    let grows = grows-on was one two c.in_ok-parameters-in-Executable.ensures.grows c.in_ok-outcome-in-Executable.ensures.grows in
    let none = subst (λ (o : Option (List ℕ)). AllMayStand three o (erasures_at table two c.as_slice-in-Executable.result.now)) c.in_default-thrown.is c.in_ok-thrown-in-Executable.ensures.stands in
    third-open table was c.in-Executable.parameters c.in-Executable.outcome c.in-Executable.thrown _ whole two three grows
    (all_known-below was c.args.number c.in-Executable.thrown c.requires.known parts.1.1)
    (subst (λ (ns : List ℕ). AllMayStand three None (erasures_at table two ns)) c.as_slice-in-Executable.ensures none)

pub of_item-intern-requires : goal.of_item-intern-requires
of_item-intern-requires t c =
    let table = c.args.table.now in
    let was = c.args.types.now in
    let one = c.erasures.new.types in
    let two = c.erasure_of.new.types in
    let three = c.erasures-in-Executable.new.types in
    let first = subst (λ (ns : List ℕ). AllMayStand one (Some c.in-Some.parameters) (erasures_at table was ns)) c.as_slice.ensures
    (subst (λ (o : Option (List ℕ)). AllMayStand one o (erasures_at table was c.as_slice.result.now)) c.in-Some.is c.in_ok-parameters-in-Executable.ensures.stands) in
    let second = subst (λ (o : Option ℕ). OptionStands two o (erasure_at table one c.in-Executable.outcome)) c.in-Some-2.is c.in_ok-outcome-in-Executable.ensures.stands in
    let third = subst (λ (ns : List ℕ). AllMayStand three (Some c.in-Some-thrown.thrown) (erasures_at table two ns)) c.as_slice-in-Executable.ensures
    (subst (λ (o : Option (List ℕ)). AllMayStand three o (erasures_at table two c.as_slice-in-Executable.result.now)) c.in-Some-thrown.is c.in_ok-thrown-in-Executable.ensures.stands) in
    executable-parts table was one two three c.in-Some.parameters _ c.in-Some-2.outcome _ c.in-Some-thrown.thrown _ first c.in_ok-outcome-in-Executable.ensures.grows second c.in_ok-thrown-in-Executable.ensures.grows third

pub of_item-returns-in-Executable-clause-stands : goal.of_item-returns-in-Executable-clause-stands
of_item-returns-in-Executable-clause-stands t c =
    let table = c.args.table.now in
    let was = c.args.types.now in
    let one = c.erasures.new.types in
    let two = c.erasure_of.new.types in
    let three = c.erasures-in-Executable.new.types in
    let exact = copy-shows c.args.types.now c.args.number c.node.result.now c.in_ok-node.node c.in_ok-node.ensures c.node.ensures.exact in
    let whole = erased-Executable c.args.table.now c.args.types.now c.args.number c.in_ok-node.node exact _ c.in-Executable.parameters c.in-Executable.outcome c.in-Executable.thrown
    c.in-Executable.is in
    let fall = node-falls c.args.number c.node.result.now c.in_ok-node.node c.node.ensures.below (sym c.in_ok-node.ensures) in
    let parts = executable-split (λ part. part < c.args.number) c.in_ok-node.node _ c.in-Executable.parameters c.in-Executable.outcome c.in-Executable.thrown c.in-Executable.is fall in
    let first = subst (λ (ns : List ℕ). AllMayStand one (Some c.in-Some.parameters) (erasures_at table was ns)) c.as_slice.ensures
    (subst (λ (o : Option (List ℕ)). AllMayStand one o (erasures_at table was c.as_slice.result.now)) c.in-Some.is c.in_ok-parameters-in-Executable.ensures.stands) in
    let second = subst (λ (o : Option ℕ). OptionStands two o (erasure_at table one c.in-Executable.outcome)) c.in-Some-2.is c.in_ok-outcome-in-Executable.ensures.stands in
    let third = subst (λ (ns : List ℕ). AllMayStand three (Some c.in-Some-thrown.thrown) (erasures_at table two ns)) c.as_slice-in-Executable.ensures
    (subst (λ (o : Option (List ℕ)). AllMayStand three o (erasures_at table two c.as_slice-in-Executable.result.now)) c.in-Some-thrown.is c.in_ok-thrown-in-Executable.ensures.stands) in
    let stands = subst
    (λ (vs : List ElementRef). Stands c.intern.new.self c.in_ok-intern-in-Executable.field-0 (mirror_with three (Executable vs c.in-Some.parameters c.in-Some-2.outcome c.in-Some-thrown.thrown)))
    c.new.ensures c.in_ok-intern-in-Executable.ensures.stands in
    all-there table was c.in-Executable.parameters c.in-Executable.outcome c.in-Executable.thrown _ whole one two three c.intern.new.self c.in-Some.parameters c.in-Some-2.outcome c.in-Some-thrown.thrown
    (known-below was c.args.number c.in-Executable.outcome c.requires.known parts.1.0) (all_known-below was c.args.number c.in-Executable.thrown c.requires.known parts.1.1)
    c.in_ok-parameters-in-Executable.ensures.grows first c.in_ok-outcome-in-Executable.ensures.grows second c.in_ok-thrown-in-Executable.ensures.grows third
    c.in_ok-intern-in-Executable.field-0 stands

pub of_item-returns : goal.of_item-returns
of_item-returns t c =
    let exact = copy-shows c.args.types.now c.args.number c.node.result.now c.in_ok-node.node c.in_ok-node.ensures c.node.ensures.exact in
    record {
      stands = erased-itself c.args.table.now c.args.types.now c.args.number c.in_ok-node.node exact c.requires.known c.requires.item c.in_default.not-Declared
          c.in_default.not-Variable c.in_default.not-Unbounded c.in_default.not-Super c.in_default.not-Executable;
      grows = grows-itself c.args.types.now;
    }
