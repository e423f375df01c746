use Rattle.std.proofs.Common.{◌≡◌, map, string_bytes, Err, inl, refl, ap, ◌∙◌, subst, arith}
use Rattle.std.proofs.lemmas.Result.{err_from_is_err_and}
use Rattle.child_session.specs.Beginning as session
use Rattle.project_units.specs.Refusals as stop
use Rattle.project_units.specs.Refusals.{Names}
use Rattle.project_units.specs.Faults.{stop_of}
use Rattle.round_engine.specs.Faults.{of_session}
use Rattle.project_units.specs.Plans.{init_frame, plan_of, try_of}
use Rattle.round_engine.proofs.BegunProcessors.{untried, begins_err}
use Rattle.round_engine.proofs.CountedStarts.{counted_by, stops_counted, hello_err, starts_memory, starts_err}
use Rattle.round_engine.proofs.beginning.begin_one.Goals as goal

pub returns-in-Err-clause-begins : goal.returns-in-Err-clause-begins
returns-in-Err-clause-begins g c = λ told.
    let C = g.C.Children in
    let plan = plan_of c.args.key.now in
    let processor = c.args.processor.now in
    let k0 = C.state c.args.children.now in
    let k1 = C.state c.begin.new.children in
    let words_is : map string_bytes c.deref.result.now ≡ processor.command = ap (map string_bytes) c.deref.ensures.value ∙ c.in_ok-words.ensures ∙ c.as_slice.ensures in
    let init_is : c.as_slice-2.result.now ≡ init_frame plan processor.name = c.as_slice-2.ensures ∙ c.in_ok-init.ensures in
    let begins = subst (λ words. session.Begins (processor.name, words) (init_frame plan processor.name) k0 k1 (Err c.in-Err.fault)) words_is
    (subst (λ init. session.Begins (processor.name, map string_bytes c.deref.result.now) init k0 k1 (Err c.in-Err.fault)) init_is (c.in-Err.ensures.begins told)) in
    begins_err plan (try_of processor) k0 k1 c.in-Err.fault (stop_of c.refusal_by.result) begins c.in-Err.ensures.starts (c.refusal_by.ensures.is ∙ ap (λ n. of_session n c.in-Err.fault) c.in_ok-name.ensures)

pub returns-in_err-name-clause-starts : goal.returns-in_err-name-clause-starts
returns-in_err-name-clause-starts g c =
    let k0 = g.C.Children.state c.args.children.now in
    let e = err_from_is_err_and c.from_residual.result c.from_residual.ensures.1 in
    rw (e.1, e.2) (starts_memory 1 stop.Memory k0 k0 refl (omega arith) (omega arith))

pub returns-in_err-name-clause-begins : goal.returns-in_err-name-clause-begins
returns-in_err-name-clause-begins g c = λ told.
    let k0 = g.C.Children.state c.args.children.now in
    let e = err_from_is_err_and c.from_residual.result c.from_residual.ensures.1 in
    rw (e.1, e.2) (untried (plan_of c.args.key.now) (try_of c.args.processor.now) k0)

pub returns-in_err-init-clause-starts : goal.returns-in_err-init-clause-starts
returns-in_err-init-clause-starts g c =
    let k0 = g.C.Children.state c.args.children.now in
    let e = err_from_is_err_and c.from_residual-in_err-init.result c.from_residual-in_err-init.ensures.1 in
    rw (e.1, e.2) (starts_memory 1 stop.Memory k0 k0 refl (omega arith) (omega arith))

pub returns-in_err-init-clause-begins : goal.returns-in_err-init-clause-begins
returns-in_err-init-clause-begins g c = λ told.
    let k0 = g.C.Children.state c.args.children.now in
    let e = err_from_is_err_and c.from_residual-in_err-init.result c.from_residual-in_err-init.ensures.1 in
    rw (e.1, e.2) (untried (plan_of c.args.key.now) (try_of c.args.processor.now) k0)

pub returns-in_err-words-clause-starts : goal.returns-in_err-words-clause-starts
returns-in_err-words-clause-starts g c =
    let k0 = g.C.Children.state c.args.children.now in
    let e = err_from_is_err_and c.from_residual-in_err-words.result c.from_residual-in_err-words.ensures.1 in
    rw (e.1, e.2) (starts_memory 1 stop.Memory k0 k0 refl (omega arith) (omega arith))

pub returns-in_err-words-clause-begins : goal.returns-in_err-words-clause-begins
returns-in_err-words-clause-begins g c = λ told.
    let k0 = g.C.Children.state c.args.children.now in
    let e = err_from_is_err_and c.from_residual-in_err-words.result c.from_residual-in_err-words.ensures.1 in
    rw (e.1, e.2) (untried (plan_of c.args.key.now) (try_of c.args.processor.now) k0)

pub returns-in-Err-clause-named : goal.returns-in-Err-clause-named
returns-in-Err-clause-named g c = subst (λ n. Names n (stop_of c.refusal_by.result)) c.in_ok-name.ensures c.refusal_by.ensures.named

pub returns-in-Err-clause-starts : goal.returns-in-Err-clause-starts
returns-in-Err-clause-starts g c =
    let C = g.C.Children in
    starts_err c.in_ok-name.name c.in-Err.fault (stop_of c.refusal_by.result) (C.state c.args.children.now) (C.state c.begin.new.children) c.in-Err.ensures.refused c.in-Err.ensures.starts (inl c.refusal_by.ensures.is)

pub returns-in-Err-clause-hello : goal.returns-in-Err-clause-hello
returns-in-Err-clause-hello g c = hello_err c.in_ok-name.name c.in-Err.fault (stop_of c.refusal_by.result) c.in-Err.ensures.refused (inl c.refusal_by.ensures.is)

pub returns-in_err-name-clause-counted : goal.returns-in_err-name-clause-counted
returns-in_err-name-clause-counted g c = λ told.
    let e = err_from_is_err_and c.from_residual.result c.from_residual.ensures.1 in
    rw (e.1, e.2) (inl (omega arith))

pub returns-in_err-init-clause-counted : goal.returns-in_err-init-clause-counted
returns-in_err-init-clause-counted g c = λ told.
    let e = err_from_is_err_and c.from_residual-in_err-init.result c.from_residual-in_err-init.ensures.1 in
    rw (e.1, e.2) (inl (omega arith))

pub returns-in_err-words-clause-counted : goal.returns-in_err-words-clause-counted
returns-in_err-words-clause-counted g c = λ told.
    let e = err_from_is_err_and c.from_residual-in_err-words.result c.from_residual-in_err-words.ensures.1 in
    rw (e.1, e.2) (inl (omega arith))

pub returns-in-Err-clause-counted : goal.returns-in-Err-clause-counted
returns-in-Err-clause-counted g c = λ told.
    let C = g.C.Children in
    stops_counted (plan_of c.args.key.now) (try_of c.args.processor.now) (stop_of c.refusal_by.result) (C.state c.args.children.now) (C.state c.begin.new.children) (returns-in-Err-clause-begins g c told)

pub returns-in-Ok-clause-counted : goal.returns-in-Ok-clause-counted
returns-in-Ok-clause-counted g c = λ told.
    let C = g.C.Children in
    counted_by _ (C.state c.args.children.now) (C.state c.begin.new.children) (c.in-Ok.ensures.begins told).tried c.in-Ok.ensures.starts
