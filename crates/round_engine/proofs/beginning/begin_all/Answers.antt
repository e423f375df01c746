use Rattle.std.proofs.Common.{◌≡◌, ◌≤◌, length, map, None, refl, sym, ap, ◌∙◌, subst, inl, arith, rules}
use Rattle.std.proofs.lemmas.Bool.{false≢true}
use Rattle.std.proofs.lemmas.List.{length-map}
use Rattle.std.proofs.lemmas.Result.{err_from_is_err_and}
use Rattle.project_units.specs.Refusals as stop
use Rattle.project_units.specs.Refusals.{exempt_by}
use Rattle.project_units.specs.Faults.{stop_of}
use Rattle.project_units.specs.Plans.{plan_of, tries_in, name_of, kind_of, names_in, kinds_in}
use Rattle.round_engine.specs.Run.{supported_in}
use Rattle.round_engine.specs.Shown.{LiveInTurn, without_each, hellos_sent}
use Rattle.round_engine.proofs.FrontsOfHellos.{shows_nothing}
use Rattle.round_engine.proofs.StoppedChildren.{fresh_ends, fresh_live}
use Rattle.round_engine.proofs.StoppedProcessors.{tries_nothing, said_behind, shows_stopped, tried_stopped, stops_at_hello}
use Rattle.round_engine.proofs.CountedStarts.{stops_same, starts_memory, starts_same}
use Rattle.round_engine.proofs.beginning.begin_all.Goals as goal

pub returns-in_err-names-clause-tried : goal.returns-in_err-names-clause-tried
returns-in_err-names-clause-tried g c = λ told. tries_nothing (tries_in c.args.key.now) (g.C.Children.state c.args.children.now)

pub returns-in_err-names-clause-begins : goal.returns-in_err-names-clause-begins
returns-in_err-names-clause-begins g c = λ told.
    let e = err_from_is_err_and c.from_residual.result c.from_residual.ensures.1 in
    rw (e.1, e.2) (λ due. absurd (false≢true due), shows_nothing (tries_in c.args.key.now) (hellos_sent (g.C.Children.state c.args.children.now).says (plan_of c.args.key.now)) (g.C.Children.state c.args.children.now))

pub returns-in-Ok-all_supported-clause-live : goal.returns-in-Ok-all_supported-clause-live
returns-in-Ok-all_supported-clause-live g c = (c.begin_each.ensures.live, c.begin_each.ensures.fresh)

pub returns-in-Ok-all_supported-clause-listed : goal.returns-in-Ok-all_supported-clause-listed
returns-in-Ok-all_supported-clause-listed g c =
    let key = c.args.key.now in
    let names_are : c.in_ok-names.names ≡ names_in key = c.in_ok-names.ensures ∙ ap (map name_of) c.as_slice.ensures in
    let kinds_are : c.in_ok-kinds.kinds ≡ kinds_in key = c.in_ok-kinds.ensures ∙ ap (map kind_of) c.as_slice-2.ensures in
    let count : length c.in-Ok-all_supported.supported ≡ length c.in-Ok.hellos =
    ap length c.in-Ok-all_supported.ensures ∙ length-map c.as_slice-in-Ok.result.now supported_in ∙ ap length c.as_slice-in-Ok.ensures in
    let few : length key.processors ≤ 64 = search rules in
    record {
      names = omega (arith, ap length names_are, length-map key.processors name_of, c.in-Ok.ensures.many, c.in-Ok.ensures.all, count);
      group = omega (arith, c.in-Ok.ensures.many, count);
      kinds = omega (arith, ap length kinds_are, length-map key.processors kind_of, c.in-Ok.ensures.many, c.in-Ok.ensures.all, count);
      hellos = sym count;
      few = omega (arith, c.in-Ok.ensures.many, c.in-Ok.ensures.all, count, few);
    }

pub returns-in-Ok-all_supported-clause-begins : goal.returns-in-Ok-all_supported-clause-begins
returns-in-Ok-all_supported-clause-begins g c = λ told. c.in-Ok.ensures.begins told

pub end_all-requires : goal.end_all-requires
end_all-requires g c =
    let k0 = g.C.Children.state c.args.children.now in
    record { lives = subst (LiveInTurn c.begin_each.new.group) (sym c.begin_each.ensures.live) (fresh_live k0.live c.begin_each.new.group c.begin_each.ensures.fresh) }

pub returns-in-Err-clause-live : goal.returns-in-Err-clause-live
returns-in-Err-clause-live g c =
    let k0 = g.C.Children.state c.args.children.now in
    c.end_all-in-Err.ensures.live ∙ ap (without_each c.begin_each.new.group) c.begin_each.ensures.live ∙ fresh_ends k0.live c.begin_each.new.group c.begin_each.ensures.fresh

pub returns-in-Err-clause-tried : goal.returns-in-Err-clause-tried
returns-in-Err-clause-tried g c = λ told.
    let C = g.C.Children in
    tried_stopped (tries_in c.args.key.now) c.begin_each.new.group (C.state c.args.children.now) (C.state c.begin_each.new.children) (C.state c.end_all-in-Err.new.children) (c.begin_each.ensures.tried told) (c.end_all-in-Err.ensures.stops told)

pub returns-in-Err-clause-begins : goal.returns-in-Err-clause-begins
returns-in-Err-clause-begins g c = λ told.
    let C = g.C.Children in
    let plan = plan_of c.args.key.now in
    let group = c.begin_each.new.group in
    let k0 = C.state c.args.children.now in
    let k1 = C.state c.begin_each.new.children in
    let k2 = C.state c.end_all-in-Err.new.children in
    let begins = c.in-Err.ensures.begins told in
    let stops = c.end_all-in-Err.ensures.stops told in
    (λ due. stops_at_hello plan group (stop_of c.in-Err.refusal) k0 k1 k2 (begins.0 due) stops c.end_all-in-Err.ensures.starts, shows_stopped (exempt_by (stop_of c.in-Err.refusal)) plan.processors (hellos_sent k0.says plan) group k0 k1 k2 begins.1 stops)

pub returns-in_err-names-clause-starts : goal.returns-in_err-names-clause-starts
returns-in_err-names-clause-starts g c =
    let k0 = g.C.Children.state c.args.children.now in
    let e = err_from_is_err_and c.from_residual.result c.from_residual.ensures.1 in
    rw (e.1, e.2) (starts_memory (length (tries_in c.args.key.now)) stop.Memory k0 k0 refl (omega arith) (omega arith))

pub returns-in-Err-clause-starts : goal.returns-in-Err-clause-starts
returns-in-Err-clause-starts g c =
    let C = g.C.Children in
    starts_same (length (tries_in c.args.key.now)) (stop_of c.in-Err.refusal) (C.state c.args.children.now) (C.state c.begin_each.new.children) (C.state c.end_all-in-Err.new.children) c.end_all-in-Err.ensures.starts c.in-Err.ensures.starts

pub returns-in_err-names-clause-counted : goal.returns-in_err-names-clause-counted
returns-in_err-names-clause-counted g c = λ told.
    let e = err_from_is_err_and c.from_residual.result c.from_residual.ensures.1 in
    rw (e.1, e.2) (inl (omega arith))

pub returns-in-Ok-all_supported-clause-counted : goal.returns-in-Ok-all_supported-clause-counted
returns-in-Ok-all_supported-clause-counted g c = λ told. c.in-Ok.ensures.counted told

pub returns-in-Err-clause-counted : goal.returns-in-Err-clause-counted
returns-in-Err-clause-counted g c = λ told.
    let C = g.C.Children in
    stops_same (stop_of c.in-Err.refusal) (C.state c.args.children.now) (C.state c.begin_each.new.children) (C.state c.end_all-in-Err.new.children) (c.end_all-in-Err.ensures.stops told).attends.same_tried c.end_all-in-Err.ensures.starts
    (c.in-Err.ensures.counted told)

pub returns-in_err-kinds-clause-begins : goal.returns-in_err-kinds-clause-begins
returns-in_err-kinds-clause-begins g c = λ told.
    let e = err_from_is_err_and c.from_residual-in_err-kinds.result c.from_residual-in_err-kinds.ensures.1 in
    rw (e.1, e.2) (λ due. absurd (false≢true due), shows_nothing (tries_in c.args.key.now) (hellos_sent (g.C.Children.state c.args.children.now).says (plan_of c.args.key.now)) (g.C.Children.state c.args.children.now))

pub end_all-requires-in-Err : goal.end_all-requires-in-Err
end_all-requires-in-Err g c =
    let k0 = g.C.Children.state c.args.children.now in
    record { lives = subst (LiveInTurn c.begin_each.new.group) (sym c.begin_each.ensures.live) (fresh_live k0.live c.begin_each.new.group c.begin_each.ensures.fresh) }

pub returns-in-Err-all_supported-clause-live : goal.returns-in-Err-all_supported-clause-live
returns-in-Err-all_supported-clause-live g c =
    let k0 = g.C.Children.state c.args.children.now in
    c.end_all.ensures.live ∙ ap (without_each c.begin_each.new.group) c.begin_each.ensures.live ∙ fresh_ends k0.live c.begin_each.new.group c.begin_each.ensures.fresh

pub returns-in-Err-all_supported-clause-begins : goal.returns-in-Err-all_supported-clause-begins
returns-in-Err-all_supported-clause-begins g c = λ told.
    let C = g.C.Children in
    let plan = plan_of c.args.key.now in
    let group = c.begin_each.new.group in
    let k0 = C.state c.args.children.now in
    let k1 = C.state c.begin_each.new.children in
    let k2 = C.state c.end_all.new.children in
    (λ due. absurd (false≢true due), shows_stopped None plan.processors (hellos_sent k0.says plan) group k0 k1 k2 (said_behind plan group c.in-Ok.hellos k0 k1 (c.in-Ok.ensures.begins told)) (c.end_all.ensures.stops told))
