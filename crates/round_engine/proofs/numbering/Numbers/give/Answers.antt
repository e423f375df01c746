use Rattle.std.proofs.Common.{ℕ, ◌-◌, ◌≤◌, ◌^◌, ◌≡◌, arith, drop, length, false, true, Result, Ok, Err, is_ok, ◌<◌}
use Rattle.std.specs.Result.{OkIff}
use Rattle.std.proofs.lemmas.List.{take_all, length-drop}
use Rattle.round_engine.specs.Numbering.{IsNextFree}
use Rattle.round_engine.proofs.NumberingLemmas.{Passes-taken, IsNextFree-from_Passes, IsNextFree-least, AreAhead-more, SameFrom-more}
use Rattle.round_engine.proofs.numbering.Numbers.give.Goals as goal

-- an error comes only where the fact does not hold
past : {E : Type 0} (r : Result ℕ E) (P : Type 0) (v : ℕ) → OkIff r P v → false ≡ is_ok r → ¬ P
past (Ok x) P v is fails = absurd cc
past (Err d) P v is fails = is

pub loop-self-preserved : goal.loop-self-preserved
loop-self-preserved c =
    let left = c.loop-self.self.taken.now in
    rw (take_all (length left - 1) (drop 1 left) (omega (arith, length-drop 1 left)))
    (Passes-taken c.args.self.now.taken.now c.args.self.now.next left c.loop-self.self.next c.loop-self.invariant (c.next_is_taken.ensures.taken.0 c.loop-self-test.true))

pub returns-clause-free : goal.returns-clause-free
returns-clause-free c =
    let same : c.in_ok-number.number ≡ c.loop-self.self.next = grind arith in
    rw same (IsNextFree-from_Passes _ _ c.loop-self.self.taken.now c.loop-self.self.next c.loop-self.invariant (λ has. let yes : c.next_is_taken.result ≡ true = c.next_is_taken.ensures.taken.1 has in absurd (cc (yes, c.loop-self-test.false))))

pub returns-clause-ahead : goal.returns-clause-ahead
returns-clause-ahead c = AreAhead-more c.loop-self.self.taken.now c.loop-self.self.next c.loop-self.invariant.ready (λ has. let yes : c.next_is_taken.result ≡ true = c.next_is_taken.ensures.taken.1 has in absurd (cc (yes, c.loop-self-test.false)))

pub returns-clause-same : goal.returns-clause-same
returns-clause-same c = SameFrom-more c.loop-self.self.next c.args.self.now.taken.now c.loop-self.self.taken.now c.loop-self.invariant.same

pub returns-in_err-number-clause-none : goal.returns-in_err-number-clause-none
returns-in_err-number-clause-none c = rw c.from_residual.ensures (λ n free.
    let next = c.loop-self.self.next in
    let here : IsNextFree c.args.self.now.taken.now c.args.self.now.next next = IsNextFree-from_Passes _ _ c.loop-self.self.taken.now next c.loop-self.invariant (λ has. let yes : c.next_is_taken.result ≡ true = c.next_is_taken.ensures.taken.1 has in absurd (cc (yes, c.loop-self-test.false))) in
    let least : next ≤ n = IsNextFree-least _ _ _ _ here free in
    let small : ¬ (next < 2 ^ 32) = past c.try_from.result (next < 2 ^ 32) next c.try_from.ensures c.in_err-number.ensures.variant in
    omega arith)
