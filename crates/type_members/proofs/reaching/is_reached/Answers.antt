use Rattle.std.proofs.Common.{None, [], ℕ, ◌<◌, ◌≤◌, length, sym, ap, subst, ◌∙◌, arith}
use Rattle.apt_base.specs.declared.element.ElementRef.{ElementRef}
use Rattle.type_layers.specs.Layers.{declared_mirror}
use Rattle.type_numbers.specs.Numbers.{at, Stands}
use Rattle.type_members.specs.Gathered.{AddsSteps}
use Rattle.type_members.specs.MemberOf.{is_of}
use Rattle.type_members.specs.Reached.{most_reached}
use Rattle.type_members.proofs.GatheredTypes.{answers_absent, answers_found, tests_absent, tests_found, gathers_first, gathers_next}
use Rattle.type_members.proofs.reaching.is_reached.Goals as goal

pub loop-done-init : goal.loop-done-init
loop-done-init c =
    let stands = subst (λ (e : ElementRef). Stands c.bare_class.new.types c.in_ok-first.first (declared_mirror e None [])) c.in_ok-copy.ensures c.in_ok-first.ensures.stands in
    gathers_first c.args.table.now c.args.from.now c.args.to.now c.bare_class.new.types c.in_ok-first.first c.in_ok-reached.reached stands c.in_ok-reached.ensures

pub returns-then-done-len-clause-reached : goal.returns-then-done-len-clause-reached
returns-then-done-len-clause-reached c =
    let all : length c.loop-done.reached ≤ c.loop-done.done = omega (arith, c.len.ensures, c.if-done-len.true) in
    answers_absent c.args.table.now c.args.from.now c.args.to.now c.loop-done.types c.loop-done.reached c.loop-done.done c.loop-done.invariant all

pub returns-then-is_of-clause-reached : goal.returns-then-is_of-clause-reached
returns-then-is_of-clause-reached c =
    let types = c.loop-done.types in
    let less : c.loop-done.done < length c.loop-done.reached = omega (arith, c.len.ensures, c.if-done-len.false) in
    let of = ap (λ (n : ℕ). is_of c.args.to.now (at types n)) (sym c.at-number.ensures) ∙ sym c.is_of.ensures ∙ c.if-is_of.true in
    answers_found c.args.table.now c.args.from.now c.args.to.now types c.loop-done.reached c.loop-done.done c.loop-done.invariant less of

pub returns-then-done-len-clause-test : goal.returns-then-done-len-clause-test
returns-then-done-len-clause-test c =
    let all : length c.loop-done.reached ≤ c.loop-done.done = omega (arith, c.len.ensures, c.if-done-len.true) in
    tests_absent c.args.table.now c.args.from.now c.args.to.now c.loop-done.types c.loop-done.reached c.loop-done.done c.loop-done.invariant all

pub returns-then-is_of-clause-test : goal.returns-then-is_of-clause-test
returns-then-is_of-clause-test c =
    let types = c.loop-done.types in
    let less : c.loop-done.done < length c.loop-done.reached = omega (arith, c.len.ensures, c.if-done-len.false) in
    let few : c.loop-done.done ≤ most_reached = omega (arith, c.loop-done-test.true) in
    let of = ap (λ (n : ℕ). is_of c.args.to.now (at types n)) (sym c.at-number.ensures) ∙ sym c.is_of.ensures ∙ c.if-is_of.true in
    tests_found c.args.table.now c.args.from.now c.args.to.now types c.loop-done.reached c.loop-done.done c.loop-done.invariant less few of

pub loop-done-preserved : goal.loop-done-preserved
loop-done-preserved c =
    let table = c.args.table.now in
    let types = c.loop-done.types in
    let reached = c.loop-done.reached in
    let less : c.loop-done.done < length reached = omega (arith, c.len.ensures, c.if-done-len.false) in
    let missed = ap (λ (n : ℕ). is_of c.args.to.now (at types n)) (sym c.at-number.ensures) ∙ sym c.is_of.ensures ∙ c.if-is_of.false in
    let adds = subst (λ (n : ℕ). AddsSteps table types c.add_steps.new.types reached c.add_steps.new.reached n) c.at-number.ensures c.in_ok-add_steps.ensures.adds in
    gathers_next table c.args.from.now c.args.to.now types reached c.loop-done.done c.loop-done.invariant less c.add_steps.new.types c.add_steps.new.reached
    c.in_ok-add_steps.ensures.grows adds missed
