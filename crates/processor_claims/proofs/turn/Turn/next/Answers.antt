use Rattle.std.proofs.Common.{◌≡◌, ◌∷◌, suc, length, sym, ap, ◌∙◌, arith}
use Rattle.processor_claims.specs.declared.turn.Turn.{Turn}
use Rattle.processor_claims.specs.Asked.{next_claim, later_claims}
use Rattle.processor_claims.specs.Turns.{offered, coming, coming_of, waiting_count}
use Rattle.processor_claims.proofs.TurnLaws.{coming-asked, coming-passed, coming-over}
use Rattle.processor_claims.proofs.turn.Turn.next.Goals as goal

pub loop-candidate-init : goal.loop-candidate-init
unfolding coming
loop-candidate-init c = record { decide = c.take_answer.ensures.coming; fewer = omega (arith, c.take_answer.ensures.waiting) }

pub loop-candidate-preserved : goal.loop-candidate-preserved
loop-candidate-preserved c =
    let now : waiting_count c.ask.new.self ≡ length c.pop_front.new.self.items = ap waiting_count c.ask.ensures.turn in
    let before : length c.loop-candidate.self.waiting.items ≡ suc (length c.pop_front.new.self.items) = ap length c.in-Some.ensures.items in
    record {
      decide = λ claims.
          ap (λ (turn : Turn). coming_of turn.unclaimed.items turn.empty_set turn.waiting.items claims) c.ask.ensures.turn
          ∙ sym (coming-passed (record c.loop-candidate.self { waiting = c.pop_front.new.self }) c.in-Some.candidate claims (sym c.if-ask.ensures.asks))
          ∙ ap (λ waiting. coming_of c.loop-candidate.self.unclaimed.items c.loop-candidate.self.empty_set waiting claims) (sym c.in-Some.ensures.items)
          ∙ c.loop-candidate.invariant.decide claims;
      fewer = omega (arith, now, before, c.loop-candidate.invariant.fewer);
    }

pub returns-then-ask-clause-asks : goal.returns-then-ask-clause-asks
returns-then-ask-clause-asks c = λ claims.
    sym (c.loop-candidate.invariant.decide claims)
    ∙ ap (λ waiting. coming_of c.loop-candidate.self.unclaimed.items c.loop-candidate.self.empty_set waiting claims) c.in-Some.ensures.items
    ∙ coming-asked (record c.loop-candidate.self { waiting = c.pop_front.new.self }) c.in-Some.candidate claims (sym c.if-ask.ensures.asks)
    ∙ ap (λ turn. (c.in-Some.candidate.number, offered turn) ∷ coming turn (next_claim claims) (later_claims claims)) (sym c.ask.ensures.turn)

pub returns-then-ask-clause-fewer : goal.returns-then-ask-clause-fewer
returns-then-ask-clause-fewer c =
    let now : waiting_count c.ask.new.self ≡ length c.pop_front.new.self.items = ap waiting_count c.ask.ensures.turn in
    let before : length c.loop-candidate.self.waiting.items ≡ suc (length c.pop_front.new.self.items) = ap length c.in-Some.ensures.items in
    omega (arith, now, before, c.loop-candidate.invariant.fewer)

pub returns-clause-over : goal.returns-clause-over
returns-clause-over c = λ claimed claims. coming-over _ claimed claims (sym c.pop_front.new.self.ok.0 ∙ c.in_default.ensures.cases.1)
