use Rattle.std.proofs.Common.{◌≡◌, ◌<◌, ◌+◌, false, [], Ok, Err, length, map, refl, sym, ap, ◌∙◌, subst, inl, arith, rules}
use Rattle.std.proofs.lemmas.List.{length-map, nil_from_length}
use Rattle.std.proofs.lemmas.Result.{err_from_is_err_and}
use Rattle.project_units.specs.Refusals as stop
use Rattle.project_units.specs.Refusals.{NamesAmong}
use Rattle.project_units.specs.Faults.{stop_of}
use Rattle.round_engine.specs.Run.{run_of, frames_of}
use Rattle.project_units.specs.Plans.{plan_of, try_of, tries_in}
use Rattle.round_engine.specs.Clean.{Closes}
use Rattle.round_engine.specs.Shown.{IsCounted, LiveInTurn, without_each, rounds_of_none}
use Rattle.round_engine.proofs.StoppedChildren.{all_live, fresh_ends, fresh_live}
use Rattle.round_engine.proofs.FrontsOfHellos.{shows_nothing}
use Rattle.round_engine.proofs.StoppedProcessors.{tries_nothing}
use Rattle.round_engine.proofs.CleanLemmas.{run_is, first_is, talked, talked_told, cleans_none, cleans_memory, cleans_at_hello, all_shown, cleans_stopped, cleans_so}
use Rattle.round_engine.proofs.CountedStarts.{counted_same, due_of_hello, starts_memory, starts_all}
use Rattle.round_engine.proofs.running.clean.Goals as goal

pub returns-in_err-progress-clause-cleans : goal.returns-in_err-progress-clause-cleans
returns-in_err-progress-clause-cleans g c =
    let e = err_from_is_err_and c.from_residual.result c.from_residual.ensures.1 in
    let plan = plan_of c.args.project.now.key in
    let k0 = g.C.Children.state c.args.children.now in
    rw (e.1, e.2) (talked _ _ _ (cleans_memory plan c.args.project.now.initial k0 k0 _ refl (shows_nothing plan.processors (frames_of (run_of k0.says plan c.args.project.now.initial)) k0)))

pub returns-in_err-progress-clause-tried : goal.returns-in_err-progress-clause-tried
returns-in_err-progress-clause-tried g c = λ told. tries_nothing (tries_in c.args.project.now.key) (g.C.Children.state c.args.children.now)

pub returns-in_err-run-clause-cleans : goal.returns-in_err-run-clause-cleans
returns-in_err-run-clause-cleans g c =
    let C = g.C.Children in
    let key = c.args.project.now.key in
    let some : 0 < length (tries_in key) = omega (arith, c.if-processors-eq0.false, c.len-processors.ensures, length-map key.processors try_of) in
    let e = err_from_is_err_and c.from_residual-in_err-run.result c.from_residual-in_err-run.ensures.1 in
    rw (e.1, e.2) (talked_told _ (tries_in key) _ some (λ told. cleans_at_hello (plan_of key) c.args.project.now.initial (C.state c.args.children.now) (C.state c.begin_all.new.children) c.in_err-run.field-0.0 (c.in_err-run.ensures.begins told)))

pub show_rounds-outcome-requires-clause-lives : goal.show_rounds-outcome-requires-clause-lives
show_rounds-outcome-requires-clause-lives g c = all_live (g.C.Children.state c.args.children.now).live c.in_ok-run.run'.group (g.C.Children.state c.begin_all.new.children).live c.in_ok-run.ensures.live.0

pub end_all-requires : goal.end_all-requires
end_all-requires g c =
    let k0 = g.C.Children.state c.args.children.now in
    let group = c.in_ok-run.run'.group in
    record { lives = subst (LiveInTurn group) (sym (c.show_rounds-outcome.ensures.live ∙ c.in_ok-run.ensures.live.0)) (fresh_live k0.live group c.in_ok-run.ensures.live.1) }

pub returns-in-Err-clause-live : goal.returns-in-Err-clause-live
returns-in-Err-clause-live g c =
    let k0 = g.C.Children.state c.args.children.now in
    let group = c.in_ok-run.run'.group in
    c.end_all.ensures.live ∙ ap (without_each group) (c.show_rounds-outcome.ensures.live ∙ c.in_ok-run.ensures.live.0) ∙ fresh_ends k0.live group c.in_ok-run.ensures.live.1

pub returns-in_err-finish_run-in-Ok-clause-live : goal.returns-in_err-finish_run-in-Ok-clause-live
returns-in_err-finish_run-in-Ok-clause-live g c =
    let k0 = g.C.Children.state c.args.children.now in
    let group = c.in_ok-run.run'.group in
    c.end_all.ensures.live ∙ ap (without_each group) (c.show_rounds-outcome.ensures.live ∙ c.in_ok-run.ensures.live.0) ∙ fresh_ends k0.live group c.in_ok-run.ensures.live.1

pub returns-in_ok-finish_run-in-Ok-clause-live : goal.returns-in_ok-finish_run-in-Ok-clause-live
returns-in_ok-finish_run-in-Ok-clause-live g c =
    let k0 = g.C.Children.state c.args.children.now in
    let group = c.in_ok-run.run'.group in
    c.end_all.ensures.live ∙ ap (without_each group) (c.show_rounds-outcome.ensures.live ∙ c.in_ok-run.ensures.live.0) ∙ fresh_ends k0.live group c.in_ok-run.ensures.live.1

pub returns-in-Err-clause-cleans : goal.returns-in-Err-clause-cleans
returns-in-Err-clause-cleans g c =
    let C = g.C.Children in
    let key = c.args.project.now.key in
    let table = c.args.project.now.initial in
    let d = c.in_ok-run.run' in
    let p = c.in_ok-progress.progress in
    let k0 = C.state c.args.children.now in
    let k1 = C.state c.begin_all.new.children in
    let k2 = C.state c.show_rounds-outcome.new.children in
    let k3 = C.state c.end_all.new.children in
    let some : 0 < length (tries_in key) = omega (arith, c.if-processors-eq0.false, c.len-processors.ensures, length-map key.processors try_of) in
    let starts : k3.starts ≡ k0.starts + length (tries_in key) = c.end_all.ensures.starts ∙ c.show_rounds-outcome.ensures.starts ∙ c.in_ok-run.ensures.starts in
    talked_told _ (tries_in key) _ some (λ told.
    cleans_stopped key table d p k0 k1 k2 k3 (run_is c.in_ok-run.ensures.names c.in_ok-run.ensures.kinds c.in_ok-run.ensures.supported) (c.in_ok-run.ensures.begins told) (c.in_ok-run.ensures.says told)
    (first_is c.in_ok-progress.ensures.contributed c.in_ok-progress.ensures.filer c.in_ok-progress.ensures.messages c.in_ok-progress.ensures.processed c.in_ok-progress.ensures.past)
    (c.show_rounds-outcome.ensures.attends told) (c.end_all.ensures.stops told) (Err c.in-Err.refusal) (c.in-Err.ensures.ends told) c.in-Err.refusal refl starts)

pub returns-in_err-finish_run-in-Ok-clause-cleans : goal.returns-in_err-finish_run-in-Ok-clause-cleans
returns-in_err-finish_run-in-Ok-clause-cleans g c =
    let C = g.C.Children in
    let key = c.args.project.now.key in
    let table = c.args.project.now.initial in
    let d = c.in_ok-run.run' in
    let p = c.in_ok-progress.progress in
    let k0 = C.state c.args.children.now in
    let k1 = C.state c.begin_all.new.children in
    let k2 = C.state c.show_rounds-outcome.new.children in
    let k3 = C.state c.end_all.new.children in
    let some : 0 < length (tries_in key) = omega (arith, c.if-processors-eq0.false, c.len-processors.ensures, length-map key.processors try_of) in
    let e = err_from_is_err_and c.from_residual-in_err-finish_run-in-Ok.result c.from_residual-in_err-finish_run-in-Ok.ensures.1 in
    rw (e.1, e.2) (talked_told _ (tries_in key) _ some (λ told.
    cleans_memory (plan_of key) table k0 k3 _ refl (all_shown key table d p k0 k1 k2 k3 (run_is c.in_ok-run.ensures.names c.in_ok-run.ensures.kinds c.in_ok-run.ensures.supported) (c.in_ok-run.ensures.begins told) (c.in_ok-run.ensures.says told)
    (first_is c.in_ok-progress.ensures.contributed c.in_ok-progress.ensures.filer c.in_ok-progress.ensures.messages c.in_ok-progress.ensures.processed c.in_ok-progress.ensures.past)
    (c.show_rounds-outcome.ensures.attends told) (c.end_all.ensures.stops told) (Ok c.in-Ok.rounds) (c.in-Ok.ensures.ends told))))

pub returns-in_ok-finish_run-in-Ok-clause-cleans : goal.returns-in_ok-finish_run-in-Ok-clause-cleans
returns-in_ok-finish_run-in-Ok-clause-cleans g c =
    let C = g.C.Children in
    let key = c.args.project.now.key in
    let table = c.args.project.now.initial in
    let d = c.in_ok-run.run' in
    let p = c.in_ok-progress.progress in
    let k0 = C.state c.args.children.now in
    let k1 = C.state c.begin_all.new.children in
    let k2 = C.state c.show_rounds-outcome.new.children in
    let k3 = C.state c.end_all.new.children in
    let rounds = c.in-Ok.rounds in
    let finished = c.in_ok-finish_run-in-Ok.field-0 in
    let some : 0 < length (tries_in key) = omega (arith, c.if-processors-eq0.false, c.len-processors.ensures, length-map key.processors try_of) in
    let starts : k3.starts ≡ k0.starts + length (tries_in key) = c.end_all.ensures.starts ∙ c.show_rounds-outcome.ensures.starts ∙ c.in_ok-run.ensures.starts in
    let count : c.count_of-started.result ≡ length (tries_in key) =
    c.count_of-started.ensures ∙ c.in_ok-run.ensures.listed.group ∙ sym c.in_ok-run.ensures.listed.names ∙ ap length c.in_ok-run.ensures.names ∙ length-map key.processors _ ∙ sym (length-map key.processors try_of) in
    let closes : Closes rounds (length (tries_in key)) d.hellos finished = subst (λ n. Closes rounds n d.hellos finished) count c.in_ok-finish_run-in-Ok.ensures.is in
    talked_told _ (tries_in key) _ some (λ told.
    cleans_so key table d p k0 k1 k2 k3 (run_is c.in_ok-run.ensures.names c.in_ok-run.ensures.kinds c.in_ok-run.ensures.supported) (c.in_ok-run.ensures.begins told) (c.in_ok-run.ensures.says told)
    (first_is c.in_ok-progress.ensures.contributed c.in_ok-progress.ensures.filer c.in_ok-progress.ensures.messages c.in_ok-progress.ensures.processed c.in_ok-progress.ensures.past)
    (c.show_rounds-outcome.ensures.attends told) (c.end_all.ensures.stops told) (Ok rounds) (c.in-Ok.ensures.ends told) rounds finished refl closes c.in_ok-finish_run-in-Ok.ensures.has starts)

pub returns-in-Err-clause-tried : goal.returns-in-Err-clause-tried
returns-in-Err-clause-tried g c = λ told.
    let tries = c.in_ok-run.ensures.tried told in
    record { count = tries.count; few = tries.few; tried = (c.end_all.ensures.stops told).attends.same_tried ∙ (c.show_rounds-outcome.ensures.attends told).same_tried ∙ tries.tried }

pub returns-in-Err-clause-says : goal.returns-in-Err-clause-says
returns-in-Err-clause-says g c = λ told. (c.end_all.ensures.stops told).attends.same_says ∙ (c.show_rounds-outcome.ensures.attends told).same_says ∙ c.in_ok-run.ensures.says told

pub returns-in_err-finish_run-in-Ok-clause-tried : goal.returns-in_err-finish_run-in-Ok-clause-tried
returns-in_err-finish_run-in-Ok-clause-tried g c = λ told.
    let tries = c.in_ok-run.ensures.tried told in
    record { count = tries.count; few = tries.few; tried = (c.end_all.ensures.stops told).attends.same_tried ∙ (c.show_rounds-outcome.ensures.attends told).same_tried ∙ tries.tried }

pub returns-in_err-finish_run-in-Ok-clause-says : goal.returns-in_err-finish_run-in-Ok-clause-says
returns-in_err-finish_run-in-Ok-clause-says g c = λ told. (c.end_all.ensures.stops told).attends.same_says ∙ (c.show_rounds-outcome.ensures.attends told).same_says ∙ c.in_ok-run.ensures.says told

pub returns-in_ok-finish_run-in-Ok-clause-tried : goal.returns-in_ok-finish_run-in-Ok-clause-tried
returns-in_ok-finish_run-in-Ok-clause-tried g c = λ told.
    let tries = c.in_ok-run.ensures.tried told in
    record { count = tries.count; few = tries.few; tried = (c.end_all.ensures.stops told).attends.same_tried ∙ (c.show_rounds-outcome.ensures.attends told).same_tried ∙ tries.tried }

pub returns-in_ok-finish_run-in-Ok-clause-says : goal.returns-in_ok-finish_run-in-Ok-clause-says
returns-in_ok-finish_run-in-Ok-clause-says g c = λ told. (c.end_all.ensures.stops told).attends.same_says ∙ (c.show_rounds-outcome.ensures.attends told).same_says ∙ c.in_ok-run.ensures.says told

pub returns-in-Err-clause-starts : goal.returns-in-Err-clause-starts
returns-in-Err-clause-starts g c =
    let C = g.C.Children in
    let key = c.args.project.now.key in
    let some : 0 < length (tries_in key) = omega (arith, c.if-processors-eq0.false, c.len-processors.ensures, length-map key.processors try_of) in
    starts_all (length (tries_in key)) (stop_of c.in-Err.refusal) (C.state c.args.children.now) (C.state c.end_all.new.children) some
    (c.end_all.ensures.starts ∙ c.show_rounds-outcome.ensures.starts ∙ c.in_ok-run.ensures.starts)

pub returns-in_err-finish_run-in-Ok-clause-starts : goal.returns-in_err-finish_run-in-Ok-clause-starts
returns-in_err-finish_run-in-Ok-clause-starts g c =
    let e = err_from_is_err_and c.from_residual-in_err-finish_run-in-Ok.result c.from_residual-in_err-finish_run-in-Ok.ensures.1 in
    let k0 = g.C.Children.state c.args.children.now in
    let k3 = g.C.Children.state c.end_all.new.children in
    let all : k3.starts ≡ k0.starts + length (tries_in c.args.project.now.key) = c.end_all.ensures.starts ∙ c.show_rounds-outcome.ensures.starts ∙ c.in_ok-run.ensures.starts in
    rw (e.1, e.2) (starts_memory (length (tries_in c.args.project.now.key)) stop.Memory k0 k3 refl (omega (arith, all)) (omega (arith, all)))

pub returns-in_ok-finish_run-in-Ok-clause-starts : goal.returns-in_ok-finish_run-in-Ok-clause-starts
returns-in_ok-finish_run-in-Ok-clause-starts g c = omega (arith, c.end_all.ensures.starts, c.show_rounds-outcome.ensures.starts, c.in_ok-run.ensures.starts)

pub returns-in-Err-clause-named : goal.returns-in-Err-clause-named
returns-in-Err-clause-named g c = subst (λ names. NamesAmong names (stop_of c.in-Err.refusal)) c.in_ok-run.ensures.names c.in-Err.ensures.named

pub returns-in_err-finish_none-clause-cleans : goal.returns-in_err-finish_none-clause-cleans
returns-in_err-finish_none-clause-cleans g c =
    let e = err_from_is_err_and c.from_residual-in_err-finish_none.result c.from_residual-in_err-finish_none.ensures.1 in
    let plan = plan_of c.args.project.now.key in
    let k0 = g.C.Children.state c.args.children.now in
    rw (e.1, e.2) (talked _ _ _ (cleans_memory plan c.args.project.now.initial k0 k0 _ refl (shows_nothing plan.processors (frames_of (run_of k0.says plan c.args.project.now.initial)) k0)))

pub returns-in_err-finish_none-clause-tried : goal.returns-in_err-finish_none-clause-tried
returns-in_err-finish_none-clause-tried g c = λ told. tries_nothing (tries_in c.args.project.now.key) (g.C.Children.state c.args.children.now)

pub returns-then-processors-eq0-clause-tried : goal.returns-then-processors-eq0-clause-tried
returns-then-processors-eq0-clause-tried g c = λ told. tries_nothing (tries_in c.args.project.now.key) (g.C.Children.state c.args.children.now)

pub returns-then-processors-eq0-clause-starts : goal.returns-then-processors-eq0-clause-starts
returns-then-processors-eq0-clause-starts g c =
    let empty : length c.args.project.now.key.processors ≡ 0 = search rules in
    omega (arith, empty, length-map c.args.project.now.key.processors try_of)

pub returns-then-processors-eq0-clause-cleans : goal.returns-then-processors-eq0-clause-cleans
returns-then-processors-eq0-clause-cleans g c =
    let key = c.args.project.now.key in
    let k0 = g.C.Children.state c.args.children.now in
    let finished = c.in_ok-finish_none.field-0 in
    let empty : length key.processors ≡ 0 = search rules in
    let none : tries_in key ≡ [] = ap (map try_of) (nil_from_length key.processors empty) in
    talked _ _ _ (cleans_none (plan_of key) c.args.project.now.initial k0 finished none
    c.in_ok-finish_none.ensures.is c.in_ok-finish_none.ensures.has)

pub returns-in_err-progress-clause-starts : goal.returns-in_err-progress-clause-starts
returns-in_err-progress-clause-starts g c =
    let k0 = g.C.Children.state c.args.children.now in
    let e = err_from_is_err_and c.from_residual.result c.from_residual.ensures.1 in
    rw (e.1, e.2) (starts_memory (length (tries_in c.args.project.now.key)) stop.Memory k0 k0 refl (omega arith) (omega arith))

pub returns-in_err-finish_none-clause-starts : goal.returns-in_err-finish_none-clause-starts
returns-in_err-finish_none-clause-starts g c =
    let k0 = g.C.Children.state c.args.children.now in
    let e = err_from_is_err_and c.from_residual-in_err-finish_none.result c.from_residual-in_err-finish_none.ensures.1 in
    rw (e.1, e.2) (starts_memory (length (tries_in c.args.project.now.key)) stop.Memory k0 k0 refl (omega arith) (omega arith))

pub returns-in_err-run-clause-starts : goal.returns-in_err-run-clause-starts
returns-in_err-run-clause-starts g c =
    let e = err_from_is_err_and c.from_residual-in_err-run.result c.from_residual-in_err-run.ensures.1 in
    rw (e.1, e.2) c.in_err-run.ensures.starts

pub returns-then-processors-eq0-clause-started : goal.returns-then-processors-eq0-clause-started
returns-then-processors-eq0-clause-started g c =
    let empty : length c.args.project.now.key.processors ≡ 0 = search rules in
    c.in_ok-finish_none.ensures.is.started ∙ sym empty

pub returns-in_ok-finish_run-in-Ok-clause-started : goal.returns-in_ok-finish_run-in-Ok-clause-started
returns-in_ok-finish_run-in-Ok-clause-started g c =
    let key = c.args.project.now.key in
    c.in_ok-finish_run-in-Ok.ensures.is.started ∙ c.count_of-started.ensures ∙ c.in_ok-run.ensures.listed.group ∙ sym c.in_ok-run.ensures.listed.names ∙ ap length c.in_ok-run.ensures.names ∙ length-map key.processors _

pub returns-in_err-run-clause-due : goal.returns-in_err-run-clause-due
returns-in_err-run-clause-due g c =
    let e = err_from_is_err_and c.from_residual-in_err-run.result c.from_residual-in_err-run.ensures.1 in
    rw (e.1, e.2) (due_of_hello (stop_of c.in_err-run.field-0.0) c.in_err-run.ensures.hello)

pub returns-in_err-progress-clause-counted : goal.returns-in_err-progress-clause-counted
returns-in_err-progress-clause-counted g c = λ told.
    let e = err_from_is_err_and c.from_residual.result c.from_residual.ensures.1 in
    rw (e.1, e.2) (inl (omega arith))

pub returns-in_err-finish_none-clause-counted : goal.returns-in_err-finish_none-clause-counted
returns-in_err-finish_none-clause-counted g c = λ told.
    let e = err_from_is_err_and c.from_residual-in_err-finish_none.result c.from_residual-in_err-finish_none.ensures.1 in
    rw (e.1, e.2) (inl (omega arith))

pub returns-then-processors-eq0-clause-counted : goal.returns-then-processors-eq0-clause-counted
returns-then-processors-eq0-clause-counted g c = λ told. omega arith

pub returns-in_err-run-clause-counted : goal.returns-in_err-run-clause-counted
returns-in_err-run-clause-counted g c = λ told.
    let e = err_from_is_err_and c.from_residual-in_err-run.result c.from_residual-in_err-run.ensures.1 in
    rw (e.1, e.2) (c.in_err-run.ensures.counted told)

pub returns-in-Err-clause-counted : goal.returns-in-Err-clause-counted
returns-in-Err-clause-counted g c = λ told.
    let C = g.C.Children in
    let k0 = C.state c.args.children.now in
    let k1 = C.state c.begin_all.new.children in
    let k3 = C.state c.end_all.new.children in
    let all : IsCounted k0 k1 = c.in_ok-run.ensures.counted told in
    let so : IsCounted k0 k3 = counted_same k0 k1 k3 ((c.end_all.ensures.stops told).attends.same_tried ∙ (c.show_rounds-outcome.ensures.attends told).same_tried) (c.end_all.ensures.starts ∙ c.show_rounds-outcome.ensures.starts) all in
    inl so

pub returns-in_err-finish_run-in-Ok-clause-counted : goal.returns-in_err-finish_run-in-Ok-clause-counted
returns-in_err-finish_run-in-Ok-clause-counted g c = λ told.
    let C = g.C.Children in
    let k0 = C.state c.args.children.now in
    let k1 = C.state c.begin_all.new.children in
    let k3 = C.state c.end_all.new.children in
    let all : IsCounted k0 k1 = c.in_ok-run.ensures.counted told in
    let so : IsCounted k0 k3 = counted_same k0 k1 k3 ((c.end_all.ensures.stops told).attends.same_tried ∙ (c.show_rounds-outcome.ensures.attends told).same_tried) (c.end_all.ensures.starts ∙ c.show_rounds-outcome.ensures.starts) all in
    let e = err_from_is_err_and c.from_residual-in_err-finish_run-in-Ok.result c.from_residual-in_err-finish_run-in-Ok.ensures.1 in
    rw (e.1, e.2) (inl so)

pub returns-in_ok-finish_run-in-Ok-clause-counted : goal.returns-in_ok-finish_run-in-Ok-clause-counted
returns-in_ok-finish_run-in-Ok-clause-counted g c = λ told.
    let C = g.C.Children in
    let k0 = C.state c.args.children.now in
    let k1 = C.state c.begin_all.new.children in
    let k3 = C.state c.end_all.new.children in
    let all : IsCounted k0 k1 = c.in_ok-run.ensures.counted told in
    let so : IsCounted k0 k3 = counted_same k0 k1 k3 ((c.end_all.ensures.stops told).attends.same_tried ∙ (c.show_rounds-outcome.ensures.attends told).same_tried) (c.end_all.ensures.starts ∙ c.show_rounds-outcome.ensures.starts) all in
    so

pub returns-then-processors-eq0-clause-hellos : goal.returns-then-processors-eq0-clause-hellos
returns-then-processors-eq0-clause-hellos g c =
    let empty : length c.args.project.now.key.processors ≡ 0 = search rules in
    ap length c.in_ok-finish_none.ensures.is.hellos ∙ sym empty

pub returns-in_ok-finish_run-in-Ok-clause-hellos : goal.returns-in_ok-finish_run-in-Ok-clause-hellos
returns-in_ok-finish_run-in-Ok-clause-hellos g c =
    let run = c.in_ok-run.ensures in
    ap length c.in_ok-finish_run-in-Ok.ensures.is.hellos ∙ run.listed.hellos ∙ sym run.listed.names ∙ ap length run.names ∙ length-map c.args.project.now.key.processors _
