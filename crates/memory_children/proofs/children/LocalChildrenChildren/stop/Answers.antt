use Rattle.std.proofs.Common.{◌≡◌, ◌==◌, not, refl, sym, subst, rules}
use Rattle.std.proofs.lemmas.Fn.{filter_same}
use Rattle.apt_outside.specs.Child.{without}
use Rattle.apt_outside.proofs.ChildLemmas.{stays_sent}
use Rattle.memory_children.specs.Kept.{LiveStarted}
use Rattle.memory_children.proofs.Living.{lives_filter}
use Rattle.memory_children.proofs.children.LocalChildrenChildren.stop.Goals as goal

pub invariant_of-self : goal.invariant_of-self
invariant_of-self c =
    let left : c.retain.new.self.items ≡ without c.args.child c.args.self.now.live.items = filter_same _ (λ k. not (k == c.args.child)) _ (λ x b f' told. search rules) _ _ c.retain.ensures.filtered in
    record {
      lives = subst (λ live. LiveStarted live c.args.self.now.started.items) (sym left) (lives_filter (λ k. not (k == c.args.child)) c.args.self.now.live.items c.args.self.now.started.items c.args.self.now.lives);
    }

pub returns-clause-live : goal.returns-clause-live
returns-clause-live c = filter_same _ _ _ (λ x b f' told. search rules) _ _ c.retain.ensures.filtered

pub returns-clause-sent : goal.returns-clause-sent
returns-clause-sent c = λ _. stays_sent c.args.child _ _ refl
