use Rattle.std.proofs.Common.{◌≡◌, ◌++◌, ◌∷◌, [], Some, length, map, sym, ap, ◌∙◌, subst, string_bytes, is_none, false, rules}
use Rattle.std.specs.List.{Contains}
use Rattle.apt_outside.specs.Child.{Try}
use Rattle.memory_children.specs.Kept.{fresh, known_of}
use Rattle.memory_children.proofs.Living.{fresh_push}
use Rattle.memory_children.proofs.Listed.{unknown_next, known_push_same, known_push_other, put_fresh}
use Rattle.memory_children.proofs.children.LocalChildrenChildren.start.Goals as goal

pub returns-clause-live : goal.returns-clause-live
returns-clause-live c =
    let number : c.accept.result ≡ length c.args.self.now.started.items = c.accept.ensures.number ∙ ap length c.in_ok-attempt.ensures.started in
    record {
      joined = c.accept.ensures.live ∙ ap (λ live. live ++ c.accept.result ∷ []) c.in_ok-attempt.ensures.live;
      fresh = λ among. fresh_push c.args.self.now.live.items c.args.self.now.started.items c.args.self.now.lives (subst (Contains c.args.self.now.live.items) number among);
      refused = tt;
    }

pub returns-clause-unknown : goal.returns-clause-unknown
returns-clause-unknown c = λ _.
    let started = c.args.self.now.started.items in
    let number : c.accept.result ≡ length started = c.accept.ensures.number ∙ ap length c.in_ok-attempt.ensures.started in
    ap (known_of started) number ∙ unknown_next started

pub returns-clause-child : goal.returns-clause-child
returns-clause-child c = λ _.
    let started = c.args.self.now.started.items in
    let call : Try = (c.args.name.now, map string_bytes c.args.command.now) in
    let number : c.accept.result ≡ length started = c.accept.ensures.number ∙ ap length c.in_ok-attempt.ensures.started in
    let some : is_none c.in_ok-attempt.attempt.begun ≡ false = search rules in
    let pushed : c.accept.new.self.started.items ≡ started ++ fresh call ∷ [] =
    put_fresh c.in_ok-attempt.attempt.begun c.prepare.new.self.started.items c.accept.new.self.started.items call some c.accept.ensures.started c.in_ok-attempt.ensures.begun ∙ ap (λ xs. xs ++ fresh call ∷ []) c.in_ok-attempt.ensures.started in
    record {
      begun = ap (λ xs. known_of xs c.accept.result) pushed ∙ ap (known_of (started ++ fresh call ∷ [])) number ∙ known_push_same started call;
      others = λ k ne. ap (λ xs. known_of xs k) pushed ∙ known_push_other started call k (λ e. ne (e ∙ sym number));
      refused = tt;
    }
