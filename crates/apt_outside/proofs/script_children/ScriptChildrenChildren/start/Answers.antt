use Rattle.std.proofs.Common.{◌≡◌, ◌++◌, ◌∷◌, [], Some, length, map, sym, ap, ◌∙◌, subst, string_bytes, option_map}
use Rattle.std.specs.List.{Contains}
use Rattle.apt_outside.specs.Child.{Try}
use Rattle.apt_outside.specs.Scripted.{known_of, child_of}
use Rattle.apt_outside.proofs.ChildLemmas.{known_push_same, known_push_other, fresh_push, fresh_child}
use Rattle.apt_outside.proofs.Joined.{get_past}
use Rattle.apt_outside.proofs.script_children.ScriptChildrenChildren.start.Goals as goal

pub returns-clause-live : goal.returns-clause-live
returns-clause-live c =
    let number : c.accept.result ≡ length c.args.self.now.started.items = c.accept.ensures.number ∙ ap length c.in_ok-attempt.ensures.started in
    record {
      joined = c.accept.ensures.live ∙ ap (λ live. live ++ c.accept.result ∷ []) c.in_ok-attempt.ensures.live;
      fresh = λ among. fresh_push c.args.self.now.scripts.items c.args.self.now.started.items c.in_ok-attempt.attempt.begun c.args.self.now.live.items c.args.self.now.lives (subst (Contains c.args.self.now.live.items) number among);
      refused = tt;
    }

pub returns-clause-unknown : goal.returns-clause-unknown
returns-clause-unknown c = λ _.
    let scripts = c.args.self.now.scripts.items in
    let started = c.args.self.now.started.items in
    let number : c.accept.result ≡ length started = c.accept.ensures.number ∙ ap length c.in_ok-attempt.ensures.started in
    ap (known_of scripts started) number ∙ ap (option_map (child_of scripts)) (get_past started)

pub returns-clause-child : goal.returns-clause-child
returns-clause-child c = λ _.
    let scripts = c.args.self.now.scripts.items in
    let started = c.args.self.now.started.items in
    let live = c.args.self.now.live.items in
    let new = c.in_ok-attempt.attempt.begun in
    let call : Try = (c.args.name.now, map string_bytes c.args.command.now) in
    let number : c.accept.result ≡ length started = c.accept.ensures.number ∙ ap length c.in_ok-attempt.ensures.started in
    let same_scripts : c.accept.new.self.scripts ≡ c.args.self.now.scripts = c.accept.ensures.scripts ∙ c.in_ok-attempt.ensures.scripts in
    let pushed : c.accept.new.self.started.items ≡ started ++ new ∷ [] = c.accept.ensures.started ∙ ap (λ xs. xs ++ new ∷ []) c.in_ok-attempt.ensures.started in
    record {
      begun = ap (λ ss. known_of ss.items c.accept.new.self.started.items c.accept.result) same_scripts ∙ ap (λ xs. known_of scripts xs c.accept.result) pushed ∙ ap (known_of scripts (started ++ new ∷ [])) number
          ∙ known_push_same scripts started new live ∙ ap Some (fresh_child scripts new call c.in_ok-attempt.ensures.begun c.in_ok-attempt.ensures.sent c.in_ok-attempt.ensures.taken);
      others = λ k ne. ap (λ ss. known_of ss.items c.accept.new.self.started.items k) same_scripts ∙ ap (λ xs. known_of scripts xs k) pushed ∙ known_push_other scripts started new live k (λ e. ne (e ∙ sym number));
      refused = tt;
    }
