use Rattle.std.proofs.Common.{◌≡◌, ◌++◌, ◌∷◌, [], length, ap, ◌∙◌, rules}
use Rattle.apt_outside.specs.Scripted.{IsJoined}
use Rattle.apt_outside.proofs.ChildLemmas.{takes_along, lives_along, takes_push, lives_push}
use Rattle.apt_outside.proofs.Joined.{each_along, each_push}
use Rattle.apt_outside.proofs.script_children.ScriptChildren.accept.Goals as goal

pub invariant_of-self : goal.invariant_of-self
invariant_of-self c =
    let scripts = c.args.self.now.scripts.items in
    let started = c.args.self.now.started.items in
    let live = c.args.self.now.live.items in
    let new = c.args.attempt.begun in
    let number : c.len-number.result ≡ length started = search rules in
    let pushed : c.push-2.new.self.items ≡ started ++ new ∷ [] = search rules in
    let joined : c.push-3.new.self.items ≡ live ++ c.len-number.result ∷ [] = search rules in
    record {
      takes = takes_along scripts (started ++ new ∷ []) _ pushed (takes_push scripts started new live c.requires.taken c.args.self.now.takes);
      joins = each_along (IsJoined scripts) (started ++ new ∷ []) _ pushed (each_push (IsJoined scripts) started new c.args.self.now.joins c.requires.joined);
      lives = lives_along (live ++ length started ∷ []) _ (started ++ new ∷ []) _ (joined ∙ ap (λ n. live ++ n ∷ []) number) pushed (lives_push scripts started new live c.args.self.now.lives);
    }
