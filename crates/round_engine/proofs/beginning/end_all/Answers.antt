use Rattle.std.proofs.Common.{◌≡◌, ◌∷◌, [], sym, ap, ◌∙◌, subst, arith, rules}
use Rattle.std.proofs.lemmas.List.{nil_from_length}
use Rattle.round_engine.specs.Shown.{LiveInTurn, StopsAll, without_each}
use Rattle.round_engine.proofs.StoppedChildren.{stops_one, stops_none}
use Rattle.round_engine.proofs.beginning.end_all.Goals as goal

pub loop-child-preserved : goal.loop-child-preserved
loop-child-preserved g c =
    let C = g.C.Children in
    let left = c.next.new.self.rest.items in
    let rest : c.loop-child.child-iterator.rest.items ≡ c.in-Some.child ∷ left = search rules in
    let lives = subst (λ xs. LiveInTurn xs (C.state c.loop-child.children).live) rest c.loop-child.invariant.lives in
    record {
      later = omega (arith, c.loop-child.invariant.later, c.stop.ensures.count);
      starts = c.stop.ensures.starts ∙ c.loop-child.invariant.starts;
      live = ap (without_each left) c.stop.ensures.live ∙ ap (λ xs. without_each xs (C.state c.loop-child.children).live) (sym rest) ∙ c.loop-child.invariant.live;
      lives = subst (LiveInTurn left) (sym c.stop.ensures.live) lives.1;
      stops = λ told k later. c.loop-child.invariant.stops told k (subst (λ xs. StopsAll xs (C.state c.loop-child.children) k) (sym rest)
          (stops_one c.in-Some.child (C.state c.loop-child.children) (C.state c.stop.new.self) (c.stop.ensures.attends told) (c.stop.ensures.sent told) left k later));
    }

pub returns-clause-stops : goal.returns-clause-stops
returns-clause-stops g c = λ told.
    let now = g.C.Children.state c.loop-child.children in
    let none : c.loop-child.child-iterator.rest.items ≡ [] = nil_from_length _ (omega (arith, c.in-None.ensures.steps.0, c.loop-child.child-iterator.rest.ok)) in
    c.loop-child.invariant.stops told now (subst (λ xs. StopsAll xs now now) (sym none) (stops_none now))
