use Rattle.std.proofs.Common.{◌≡◌, Ok, Err, ap, sym, subst, ◌∙◌, map, string_bytes, rules}
use Rattle.std.proofs.lemmas.Result.{err_from_is_err_and}
use Rattle.apt_outside.specs.Child.{Try, State, Tries, Begins, without}
use Rattle.apt_outside.proofs.Live.{without_last}
use Rattle.child_session.specs.Beginning as beginning
use Rattle.child_session.specs.Beginning.{hello_in}
use Rattle.child_session.proofs.BeginningLemmas.{begins_not, begins_failed, begins_so, begins_none}
use Rattle.child_session.proofs.beginning.begin.Goals as goal

pub returns-in-Err-clause-live : goal.returns-in-Err-clause-live
returns-in-Err-clause-live g c =
    let child = c.in_ok-child.child in
    c.stop.ensures.live ∙ ap (without child) (c.exchange.ensures.live ∙ c.in_ok-child.ensures.live.joined) ∙ without_last child (g.C.Children.state c.args.children.now).live c.in_ok-child.ensures.live.fresh

pub returns-in-Err-hello_in-clause-live : goal.returns-in-Err-hello_in-clause-live
returns-in-Err-hello_in-clause-live g c =
    let child = c.in_ok-child.child in
    c.stop-in-Err-hello_in.ensures.live ∙ ap (without child) (c.exchange.ensures.live ∙ c.in_ok-child.ensures.live.joined) ∙ without_last child (g.C.Children.state c.args.children.now).live c.in_ok-child.ensures.live.fresh

pub returns-in_err-child-clause-begins : goal.returns-in_err-child-clause-begins
returns-in_err-child-clause-begins g c = λ told.
    let C = g.C.Children in
    let command = map string_bytes c.args.command.now in
    let name_is : c.as_str.result.now ≡ c.args.name.now = search rules in
    let p = err_from_is_err_and c.from_residual.result c.from_residual.ensures.1 in
    let call : Try = (c.args.name.now, command) in
    let tries = subst (λ n. Tries (n, command) (C.state c.args.children.now) (C.state c.start.new.self) (Err c.in_err-child.field-0.0)) name_is (c.in_err-child.ensures.tried told) in
    rw (p.1, p.2) (begins_not call c.args.init.now (C.state c.args.children.now) (C.state c.start.new.self) c.in_err-child.field-0.0 (c.in_err-child.ensures.child told).refused c.in_err-child.ensures.starts.same tries)

pub returns-in-Err-clause-begins : goal.returns-in-Err-clause-begins
returns-in-Err-clause-begins g c = λ told.
    let C = g.C.Children in
    let command = map string_bytes c.args.command.now in
    let name_is : c.as_str.result.now ≡ c.args.name.now = search rules in
    let before : State = C.state c.args.children.now in
    let started : State = C.state c.start.new.self in
    let begins = subst (λ n. Begins (n, command) before started (Ok c.in_ok-child.child)) name_is (c.in_ok-child.ensures.child told) in
    let tries = subst (λ n. Tries (n, command) before started (Ok c.in_ok-child.child)) name_is (c.in_ok-child.ensures.tried told) in
    subst (λ e. beginning.Begins (c.args.name.now, command) c.args.init.now before (C.state c.stop.new.self) (Err e)) (sym c.from.ensures)
    (begins_failed c.in_ok-child.child (c.args.name.now, command) c.args.init.now before started (C.state c.exchange.new.children) (c.in_ok-child.ensures.unknown told) (c.in_ok-child.ensures.says told) begins.begun begins.others tries.ok
    (c.exchange.ensures.attends told) (C.state c.stop.new.self) (c.stop.ensures.attends told) (c.stop.ensures.sent told) (c.stop.ensures.starts ∙ c.exchange.ensures.starts ∙ c.in_ok-child.ensures.starts.rose) c.in-Err.fault (c.in-Err.ensures.sent told))

pub returns-in-Err-hello_in-clause-begins : goal.returns-in-Err-hello_in-clause-begins
returns-in-Err-hello_in-clause-begins g c = λ told.
    let C = g.C.Children in
    let command = map string_bytes c.args.command.now in
    let name_is : c.as_str.result.now ≡ c.args.name.now = search rules in
    let before : State = C.state c.args.children.now in
    let started : State = C.state c.start.new.self in
    let begins = subst (λ n. Begins (n, command) before started (Ok c.in_ok-child.child)) name_is (c.in_ok-child.ensures.child told) in
    let tries = subst (λ n. Tries (n, command) before started (Ok c.in_ok-child.child)) name_is (c.in_ok-child.ensures.tried told) in
    let none : hello_in c.in-Ok.answer ≡ Err c.in-Err-hello_in.breach = sym c.hello_in.ensures ∙ c.in-Err-hello_in.is in
    begins_none c.in_ok-child.child (c.args.name.now, command) c.args.init.now before started (C.state c.exchange.new.children) (c.in_ok-child.ensures.unknown told) (c.in_ok-child.ensures.says told) begins.begun begins.others tries.ok
    (c.exchange.ensures.attends told) c.in-Ok.answer (c.in-Ok.ensures.answer told) (C.state c.stop-in-Err-hello_in.new.self) c.in-Err-hello_in.breach (c.stop-in-Err-hello_in.ensures.attends told) (c.stop-in-Err-hello_in.ensures.sent told) none

pub returns-in-Ok-hello_in-clause-begins : goal.returns-in-Ok-hello_in-clause-begins
returns-in-Ok-hello_in-clause-begins g c = λ told.
    let C = g.C.Children in
    let command = map string_bytes c.args.command.now in
    let name_is : c.as_str.result.now ≡ c.args.name.now = search rules in
    let before : State = C.state c.args.children.now in
    let started : State = C.state c.start.new.self in
    let begins = subst (λ n. Begins (n, command) before started (Ok c.in_ok-child.child)) name_is (c.in_ok-child.ensures.child told) in
    let tries = subst (λ n. Tries (n, command) before started (Ok c.in_ok-child.child)) name_is (c.in_ok-child.ensures.tried told) in
    let some : hello_in c.in-Ok.answer ≡ Ok c.in-Ok-hello_in.hello = sym c.hello_in.ensures ∙ c.in-Ok-hello_in.is in
    begins_so c.in_ok-child.child (c.args.name.now, command) c.args.init.now before started (C.state c.exchange.new.children) (c.in_ok-child.ensures.unknown told) (c.in_ok-child.ensures.says told) begins.begun begins.others tries.ok
    (c.exchange.ensures.attends told) c.in-Ok.answer (c.in-Ok.ensures.answer told) c.in-Ok-hello_in.hello some
