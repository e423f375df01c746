use Rattle.std.proofs.Common.{◌≡◌, ℕ, ◌+◌, ◌-◌, ◌≤◌, max, drop, None, Some, refl, sym, ap, subst, ◌∙◌, arith, rules}
use Rattle.element_table.specs.TypeTable.{TypeTable}
use Rattle.type_overriding.specs.Methods.{container_of}
use Rattle.type_listing.specs.Members.{Elements, super_elements}
use Rattle.type_listing.specs.Remembered.{AreKnownWithin, IsGathered}
use Rattle.type_listing.proofs.GatheredMembers.{none-left, none-above, none-beside, one_gathered, all_gathered, known_here, begun, due_none, due_all, copy_known, recalled-open}
use Rattle.type_listing.proofs.members.+listing.Goals as goal

-- ---- gathering

pub gathered-loop-each-init : goal.gathered-loop-each-init
gathered-loop-each-init t c =
    let all : c.args.supers.now ≡ super_elements c.args.remembered.now c.args.at.now = search rules in
    let b = begun c.args.remembered.now c.table.result.now c.args.at.now c.args.supers.now c.in_ok-list.list c.table.ensures c.in_ok-list.ensures all in
    (refl, b.0, omega arith, b.1, c.new-methods.ensures ∙ ap (λ (x : TypeTable). container_of x c.args.at.now) c.table-2.ensures)

pub gathered-add_above-requires : goal.gathered-add_above-requires
gathered-add_above-requires t c =
    record {
      methods = c.loop-each.invariant.4 ∙ ap (λ (x : TypeTable). container_of x c.args.at.now) (sym c.loop-each.invariant.1);
      remembered = c.in_ok-known_members.ensures.kept ∙ c.loop-each.invariant.0 ∙ sym c.loop-each.invariant.1;
    }

pub gathered-returns-then-levels-eq0-clause-known : goal.gathered-returns-then-levels-eq0-clause-known
gathered-returns-then-levels-eq0-clause-known t c =
    none-left c.args.remembered.now c.args.at.now c.args.supers.now c.loop-each.each-index c.each-item.result c.loop-each.wanted c.loop-each.list.list
    c.loop-each-test.true (sym c.each-item.is) c.loop-each.invariant.3 c.args.levels c.if-levels-eq0.true

pub gathered-returns-in-None-clause-known : goal.gathered-returns-in-None-clause-known
gathered-returns-in-None-clause-known t c =
    none-above c.args.remembered.now c.args.at.now c.args.supers.now c.loop-each.each-index c.each-item.result c.loop-each.wanted c.loop-each.list.list
    c.loop-each-test.true (sym c.each-item.is) c.loop-each.invariant.3 c.args.levels (omega (arith, c.if-levels-eq0.false))
    (known_here c.args.remembered.now c.loop-each.remembered c.each-item.result (c.args.levels - 1) c.in_ok-known_members.field-0 None
    c.loop-each.invariant.0 c.in-None.is c.in_ok-known_members.ensures.known)

pub gathered-returns-then-not-branch-clause-known : goal.gathered-returns-then-not-branch-clause-known
gathered-returns-then-not-branch-clause-known t c =
    none-beside c.args.remembered.now c.args.at.now c.args.supers.now c.loop-each.each-index c.each-item.result c.loop-each.wanted c.loop-each.list.list
    c.loop-each-test.true (sym c.each-item.is) c.loop-each.invariant.3 c.args.levels c.in-Some.above (omega (arith, c.if-levels-eq0.false)) c.loop-each.invariant.2
    (known_here c.args.remembered.now c.loop-each.remembered c.each-item.result (c.args.levels - 1) c.in_ok-known_members.field-0 (Some c.in-Some.above)
    c.loop-each.invariant.0 c.in-Some.is c.in_ok-known_members.ensures.known)
    (due_none c.args.remembered.now c.loop-each.list.table c.args.at.now c.in_ok-add_above-in-Some.field-0 c.loop-each.list.list c.as_slice.result.now c.in-Some.above.list
    c.add_above.new.list.list c.loop-each.invariant.1 c.as_slice.ensures c.if-not-branch.true c.in_ok-add_above-in-Some.ensures.due)

pub gathered-overflow_add-above : goal.gathered-overflow_add-above
gathered-overflow_add-above t c =
    let known =
    known_here c.args.remembered.now c.loop-each.remembered c.each-item.result (c.args.levels - 1) c.in_ok-known_members.field-0 (Some c.in-Some.above)
    c.loop-each.invariant.0 c.in-Some.is c.in_ok-known_members.ensures.known in
    let less : c.in-Some.above.levels ≤ c.args.levels - 1 = known.1 in
    omega (arith, c.if-levels-eq0.false)

pub gathered-loop-each-preserved : goal.gathered-loop-each-preserved
gathered-loop-each-preserved t c =
    let known =
    known_here c.args.remembered.now c.loop-each.remembered c.each-item.result (c.args.levels - 1) c.in_ok-known_members.field-0 (Some c.in-Some.above)
    c.loop-each.invariant.0 c.in-Some.is c.in_ok-known_members.ensures.known in
    let less : c.in-Some.above.levels ≤ c.args.levels - 1 = known.1 in
    let wanted : c.loop-each.wanted ≤ c.args.levels = c.loop-each.invariant.2 in
    let most : c.max-wanted.result ≡ max c.loop-each.wanted (c.in-Some.above.levels + 1) = omega arith in (
      c.in_ok-add_above-in-Some.ensures.remembered ∙ c.in_ok-known_members.ensures.kept ∙ c.loop-each.invariant.0,
      c.in_ok-add_above-in-Some.ensures.table ∙ c.loop-each.invariant.1,
      omega (arith, c.if-levels-eq0.false),
      subst (λ (n : ℕ). IsGathered c.args.remembered.now c.args.at.now (drop (c.loop-each.each-index + 1) c.args.supers.now) n c.add_above.new.list.list) (sym most)
          (one_gathered c.args.remembered.now c.args.at.now c.args.supers.now c.loop-each.each-index c.each-item.result c.loop-each.wanted c.loop-each.list.list
          c.loop-each-test.true (sym c.each-item.is) c.loop-each.invariant.3 c.in-Some.above (c.args.levels - 1) c.add_above.new.list.list known
          (due_all c.args.remembered.now c.loop-each.list.table c.args.at.now c.in_ok-add_above-in-Some.field-0 c.loop-each.list.list c.as_slice.result.now c.in-Some.above.list
          c.add_above.new.list.list c.loop-each.invariant.1 c.as_slice.ensures c.if-not-branch.false c.in_ok-add_above-in-Some.ensures.due)),
      c.in_ok-add_above-in-Some.ensures.kept ∙ c.loop-each.invariant.4,
    )

pub gathered-returns-clause-known : goal.gathered-returns-clause-known
gathered-returns-clause-known t c =
    subst (λ (xs : Elements). AreKnownWithin c.args.remembered.now c.args.at.now c.args.levels (Some (record { levels = c.loop-each.wanted; list = xs })))
    (sym c.into_list.ensures)
    (all_gathered c.args.remembered.now c.args.at.now c.args.supers.now c.loop-each.each-index c.loop-each.wanted c.args.levels c.loop-each.list.list
    (omega arith) c.loop-each.invariant.2 c.loop-each.invariant.3)

-- ---- what is known of a type

pub known_members-returns-then-known-levels-clause-known : goal.known_members-returns-then-known-levels-clause-known
known_members-returns-then-known-levels-clause-known t c =
    recalled-open c.args.remembered.now c.args.at.now c.in-Some.known c.args.levels (rw c.in-Some.is at c.in_ok-known.ensures) c.if-known-levels.true

pub known_members-returns-in-Some-clause-known : goal.known_members-returns-in-Some-clause-known
known_members-returns-in-Some-clause-known t c = (rw c.in-Some.is at c.in_ok-known.ensures, c.if-known-levels.false)

pub known_members-gathered-requires : goal.known_members-gathered-requires
known_members-gathered-requires t c =
    (omega (arith, c.decreases), c.as_slice.ensures ∙ c.in_ok-supers.ensures.value ∙ ap (λ (x : TypeTable). super_elements x c.args.at.now) (sym c.in_ok-supers.ensures.kept))

pub known_members-returns-in-None-clause-known : goal.known_members-returns-in-None-clause-known
known_members-returns-in-None-clause-known t c =
    known_here c.args.remembered.now c.super_elements.new.remembered c.args.at.now c.args.levels c.in_ok-gathered.field-0 None
    c.in_ok-supers.ensures.kept c.in-None.is c.in_ok-gathered.ensures.known

pub known_members-remember-requires : goal.known_members-remember-requires
known_members-remember-requires t c =
    copy_known c.args.remembered.now c.gathered.new.remembered c.args.at.now c.args.levels c.in-Some-2.known c.in_ok-copy-in-Some-2.copy
    (c.in_ok-gathered.ensures.kept ∙ c.in_ok-supers.ensures.kept) c.in_ok-copy-in-Some-2.ensures
    (known_here c.args.remembered.now c.super_elements.new.remembered c.args.at.now c.args.levels c.in_ok-gathered.field-0 (Some c.in-Some-2.known)
    c.in_ok-supers.ensures.kept c.in-Some-2.is c.in_ok-gathered.ensures.known)

pub known_members-returns-clause-known : goal.known_members-returns-clause-known
known_members-returns-clause-known t c =
    known_here c.args.remembered.now c.super_elements.new.remembered c.args.at.now c.args.levels c.in_ok-gathered.field-0 (Some c.in-Some-2.known)
    c.in_ok-supers.ensures.kept c.in-Some-2.is c.in_ok-gathered.ensures.known
