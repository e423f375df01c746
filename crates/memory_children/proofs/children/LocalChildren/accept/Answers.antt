use Rattle.std.proofs.Common.{◌≡◌, ◌++◌, ◌∷◌, [], length, ap, ◌∙◌, rules}
use Rattle.memory_children.proofs.Living.{lives_along, lives_push}
use Rattle.memory_children.proofs.children.LocalChildren.accept.Goals as goal

pub invariant_of-self : goal.invariant_of-self
invariant_of-self c =
    let started = c.args.self.now.started.items in
    let live = c.args.self.now.live.items in
    let new = c.in-Some.child in
    let number : c.len-number.result ≡ length started = search rules in
    let pushed : c.push.new.self.items ≡ started ++ new ∷ [] = search rules in
    let joined : c.push-3.new.self.items ≡ live ++ c.len-number.result ∷ [] = search rules in
    record {
      lives = lives_along (live ++ length started ∷ []) _ (started ++ new ∷ []) _ (joined ∙ ap (λ n. live ++ n ∷ []) number) (ap length pushed) (lives_push live started new c.args.self.now.lives);
    }
