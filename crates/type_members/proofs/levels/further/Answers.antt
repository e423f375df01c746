use Rattle.std.proofs.Common.{List, Option, ℕ, ◌+◌, get_or, sym, ap, ◌∙◌, subst}
use Rattle.element_table.specs.TypeTable.{TypeTable}
use Rattle.type_numbers.proofs.NumberLaws.{grows-on}
use Rattle.type_steps.specs.Supertypes.{AllMayStand, direct_at}
use Rattle.type_members.specs.Once.{with_each}
use Rattle.type_members.proofs.NextLevels.{IsLevelSoFar, level_next, level_open}
use Rattle.type_members.proofs.levels.further.Goals as goal

pub returns-in-None-clause-level : goal.returns-in-None-clause-level
returns-in-None-clause-level c =
    let table = c.args.resolver.now in
    let so_far = c.loop-number.types in
    let now = c.direct_with.new.types in
    let i = c.loop-number.number-index in
    let asked = λ (t : TypeTable). AllMayStand now c.in_ok-direct_with.field-0 (direct_at t so_far (get_or c.args.level.now i 0)) in
    let stands = subst asked c.loop-number.invariant.kept c.in_ok-direct_with.ensures.stands in
    let open_types = λ (o : Option (List ℕ)). AllMayStand now o (direct_at table so_far (get_or c.args.level.now i 0)) in
    level_open table c.args.types.now so_far now c.args.level.now i c.loop-number-test.true c.requires.known c.loop-number.invariant.grows c.in_ok-direct_with.ensures.grows
    (subst open_types c.in-None.is stands)

pub loop-number-preserved : goal.loop-number-preserved
loop-number-preserved c =
    let table = c.args.resolver.now in
    let was = c.args.types.now in
    let so_far = c.loop-number.types in
    let now = c.direct_with.new.types in
    let numbers = c.args.level.now in
    let i = c.loop-number.number-index in
    let asked = λ (t : TypeTable). AllMayStand now c.in_ok-direct_with.field-0 (direct_at t so_far (get_or numbers i 0)) in
    let stands = subst asked c.loop-number.invariant.kept c.in_ok-direct_with.ensures.stands in
    let supertypes = λ (o : Option (List ℕ)). AllMayStand now o (direct_at table so_far (get_or numbers i 0)) in
    let next = level_next table was so_far now numbers i c.loop-number-test.true c.requires.known c.loop-number.invariant.grows c.in_ok-direct_with.ensures.grows
    c.loop-number.next c.in-Some.supertypes c.loop-number.invariant.level (subst supertypes c.in-Some.is stands) in
    record {
      level = subst (λ (ns : List ℕ). IsLevelSoFar table was now numbers ns (i + 1))
          (sym (c.in_ok-add_each-in-Some.ensures ∙ ap (λ (ns : List ℕ). with_each c.loop-number.next ns) c.as_slice.ensures)) next;
      grows = grows-on was so_far now c.loop-number.invariant.grows c.in_ok-direct_with.ensures.grows;
      kept = c.direct_with.ensures.kept ∙ c.loop-number.invariant.kept;
    }
