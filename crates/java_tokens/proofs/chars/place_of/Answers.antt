use Rattle.std.proofs.Common.{◌+◌, ◌-◌, length, ap, sym, subst, arith}
use Rattle.std.proofs.lemmas.Iterator.{YieldsList-from_chars}
use Rattle.std.proofs.lemmas.Iterator.Consumers.{YieldsList-turn, YieldsList-end}
use Rattle.std.proofs.lemmas.List.{length_push}
use Rattle.std.proofs.lemmas.Str.{encodes-chars}
use Rattle.std.specs.Str.{chars}
use Rattle.java_tokens.proofs.Offsets.{IsWalked, walked_none, walked_here, walked_bound, walked_more, walked_all}
use Rattle.java_tokens.proofs.chars.place_of.Goals as goal

pub loop-c-init : goal.loop-c-init
loop-c-init c = walked_none (chars c.args.text.now) c.args.at

pub returns-then-left-eq0-clause-place : goal.returns-then-left-eq0-clause-place
returns-then-left-eq0-clause-place c =
    let t = YieldsList-turn (YieldsList-from_chars c.args.text.now c.utf8.text cc) c.loop-c.yielded _ c.loop-c.yielded_by _ _ c.in-Some.c c.in-Some.is c.next.ensures.steps in
    walked_here (chars c.args.text.now) (length c.loop-c.yielded) c.loop-c.place c.loop-c.left c.args.at c.in-Some.c c.loop-c.invariant t.0 t.1 c.if-left-eq0.true

pub returns-then-left-eq0-clause-within : goal.returns-then-left-eq0-clause-within
returns-then-left-eq0-clause-within c = omega (arith, c.loop-c.invariant.bound, ap length (encodes-chars c.args.text.now c.utf8.text))

pub overflow_add-place : goal.overflow_add-place
overflow_add-place c =
    let t = YieldsList-turn (YieldsList-from_chars c.args.text.now c.utf8.text cc) c.loop-c.yielded _ c.loop-c.yielded_by _ _ c.in-Some.c c.in-Some.is c.next.ensures.steps in
    let bound = walked_bound (chars c.args.text.now) (length c.loop-c.yielded) c.loop-c.place c.loop-c.left c.args.at c.in-Some.c c.loop-c.invariant t.0 t.1 in
    omega (arith, bound, ap length (encodes-chars c.args.text.now c.utf8.text), c.len_utf8.ensures.value, c.requires)

pub loop-c-preserved : goal.loop-c-preserved
loop-c-preserved c =
    let cs = chars c.args.text.now in
    let k = length c.loop-c.yielded in
    let t = YieldsList-turn (YieldsList-from_chars c.args.text.now c.utf8.text cc) c.loop-c.yielded _ c.loop-c.yielded_by _ _ c.in-Some.c c.in-Some.is c.next.ensures.steps in
    subst (λ n. IsWalked cs n (c.loop-c.place + c.len_utf8.result) (c.loop-c.left - 1) c.args.at) (sym (length_push c.loop-c.yielded c.in-Some.c))
    (subst (λ w. IsWalked cs (k + 1) (c.loop-c.place + w) (c.loop-c.left - 1) c.args.at) (sym c.len_utf8.ensures.value)
    (walked_more cs k c.loop-c.place c.loop-c.left c.args.at c.in-Some.c c.loop-c.invariant t.0 t.1 c.if-left-eq0.false))

pub returns-clause-place : goal.returns-clause-place
returns-clause-place c =
    let t = YieldsList-end (YieldsList-from_chars c.args.text.now c.utf8.text cc) c.loop-c.yielded _ c.loop-c.yielded_by _ _ c.in-None.is c.next.ensures.steps in
    walked_all (chars c.args.text.now) (length c.loop-c.yielded) c.loop-c.place c.loop-c.left c.args.at c.loop-c.invariant (omega (arith, t.1))
