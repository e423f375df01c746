use Rattle.std.proofs.Common.{◌≡◌, ◌+◌, ◌<◌, ◌≤◌, inl, inr, ℕ, length, Option, Some, ap, sym, subst, ◌∙◌, refl, arith}
use Rattle.std.proofs.lemmas.Iterator.{YieldsList-from_chars}
use Rattle.std.proofs.lemmas.Iterator.Consumers.{YieldsList-turn, YieldsList-end}
use Rattle.std.proofs.lemmas.List.{length_push}
use Rattle.std.proofs.lemmas.Str.{encodes-chars}
use Rattle.std.specs.Str.{chars}
use Rattle.java_tokens.specs.declared.automaton.Found.{Found}
use Rattle.java_tokens.specs.Sorts as sorts
use Rattle.java_tokens.specs.Table.{after}
use Rattle.java_tokens.proofs.Scans.{IsScanned, scanned_none, scanned_more, scanned_stuck, scanned_all, scanned_fits}
use Rattle.java_tokens.proofs.automaton.scanned_front.Goals as goal

pub loop-c-init : goal.loop-c-init
loop-c-init c = scanned_none (chars c.args.text.now)

pub returns-then-state-eq-STUCK : goal.returns-then-state-eq-STUCK
returns-then-state-eq-STUCK c =
    let t = YieldsList-turn (YieldsList-from_chars c.args.text.now c.utf8.text cc) c.loop-c.yielded _ c.loop-c.yielded_by _ _ c.in-Some.c c.in-Some.is c.next.ensures.steps in
    let state_is : c.next_state-state.result ≡ after c.loop-c.state (sorts.sort_of c.in-Some.c) = c.next_state-state.ensures.value ∙ ap (after c.loop-c.state) c.sort_of.ensures.value in
    scanned_stuck (chars c.args.text.now) (length c.loop-c.yielded) c.loop-c.state c.loop-c.width c.in-Some.c c.next_state-state.result c.loop-c.found c.loop-c.invariant t.0 t.1 state_is c.if-state-eq-STUCK.true

pub overflow_add-width : goal.overflow_add-width
overflow_add-width c =
    let t = YieldsList-turn (YieldsList-from_chars c.args.text.now c.utf8.text cc) c.loop-c.yielded _ c.loop-c.yielded_by _ _ c.in-Some.c c.in-Some.is c.next.ensures.steps in
    let bound = scanned_fits (chars c.args.text.now) (length c.loop-c.yielded) c.loop-c.state c.loop-c.width c.in-Some.c c.loop-c.found c.loop-c.invariant t.0 t.1 in
    omega (arith, bound, ap length (encodes-chars c.args.text.now c.utf8.text), c.len_utf8-width.ensures.value)

abbrev with_class : ℕ → ℕ → Option Found
with_class width k = Some (record { width = width; class = k })

pub loop-c-preserved-then-class-lt-NO_CLASS : goal.loop-c-preserved-then-class-lt-NO_CLASS
loop-c-preserved-then-class-lt-NO_CLASS c =
    let t = YieldsList-turn (YieldsList-from_chars c.args.text.now c.utf8.text cc) c.loop-c.yielded _ c.loop-c.yielded_by _ _ c.in-Some.c c.in-Some.is c.next.ensures.steps in
    let state_is : c.next_state-state.result ≡ after c.loop-c.state (sorts.sort_of c.in-Some.c) = c.next_state-state.ensures.value ∙ ap (after c.loop-c.state) c.sort_of.ensures.value in
    let found : Option Found = Some (record { width = c.loop-c.width + c.len_utf8-width.result; class = c.class_of_state-class.result }) in
    subst (λ n. IsScanned (chars c.args.text.now) n c.next_state-state.result (c.loop-c.width + c.len_utf8-width.result) found) (sym (length_push c.loop-c.yielded c.in-Some.c))
    (scanned_more (chars c.args.text.now) (length c.loop-c.yielded) c.loop-c.state c.loop-c.width c.in-Some.c c.next_state-state.result (c.loop-c.width + c.len_utf8-width.result) c.loop-c.found found c.loop-c.invariant t.0 t.1 state_is (ap (λ w. c.loop-c.width + w) c.len_utf8-width.ensures.value)
    (inl (subst (λ k. k < 7) c.class_of_state-class.ensures c.if-class-lt-NO_CLASS.true, ap (with_class (c.loop-c.width + c.len_utf8-width.result)) c.class_of_state-class.ensures)))

pub loop-c-preserved : goal.loop-c-preserved
loop-c-preserved c =
    let t = YieldsList-turn (YieldsList-from_chars c.args.text.now c.utf8.text cc) c.loop-c.yielded _ c.loop-c.yielded_by _ _ c.in-Some.c c.in-Some.is c.next.ensures.steps in
    let state_is : c.next_state-state.result ≡ after c.loop-c.state (sorts.sort_of c.in-Some.c) = c.next_state-state.ensures.value ∙ ap (after c.loop-c.state) c.sort_of.ensures.value in
    subst (λ n. IsScanned (chars c.args.text.now) n c.next_state-state.result (c.loop-c.width + c.len_utf8-width.result) c.loop-c.found) (sym (length_push c.loop-c.yielded c.in-Some.c))
    (scanned_more (chars c.args.text.now) (length c.loop-c.yielded) c.loop-c.state c.loop-c.width c.in-Some.c c.next_state-state.result (c.loop-c.width + c.len_utf8-width.result) c.loop-c.found c.loop-c.found c.loop-c.invariant t.0 t.1 state_is (ap (λ w. c.loop-c.width + w) c.len_utf8-width.ensures.value)
    (inr (subst (λ k. 7 ≤ k) c.class_of_state-class.ensures c.if-class-lt-NO_CLASS.false, refl)))

pub returns : goal.returns
returns c =
    let t = YieldsList-end (YieldsList-from_chars c.args.text.now c.utf8.text cc) c.loop-c.yielded _ c.loop-c.yielded_by _ _ c.in-None.is c.next.ensures.steps in
    scanned_all (chars c.args.text.now) (length c.loop-c.yielded) c.loop-c.state c.loop-c.width c.loop-c.found c.loop-c.invariant (omega (arith, t.1))
