use Rattle.std.proofs.Common.{◌≡◌, ◌<◌, ◌-◌, ◌+◌, refl, sym, subst, ◌∙◌, arith, rules, length, Err, ap}
use Rattle.std.proofs.lemmas.Result.{err_from_is_err_and}
use Rattle.apt_outside.specs.Count.{Told}
use Rattle.child_session.specs.declared.fault.SessionFault.TheVariants.{Memory}
use Rattle.child_session.specs.declared.request.Turn.TheVariants.{Asks}
use Rattle.child_session.specs.Acts.{claimed_by, end_of}
use Rattle.child_session.specs.Faults.{fault_of}
use Rattle.child_session.specs.Notes.{noted_with, answer_from}
use Rattle.child_session.specs.Replies.{shown_of, round_frame, filed_after}
use Rattle.child_session.specs.Requests.{turn_at}
use Rattle.child_session.specs.Round.{exchange_with, Served, Replies}
use Rattle.child_session.specs.Talk.{Exchanges, SendsOnce}
use Rattle.child_session.proofs.Taking.{attends_then, changes_self}
use Rattle.child_session.proofs.RoundsUnderway.{GoesOn, way_begins, way_goes, way_begins_not, fault_is_free, way_stops, way_closes, sends_nothing, sends_once, Stops, begins_underway, next_underway, ends_noted}
use Rattle.child_session.proofs.LastTurns.{end_is_due, end_has_reason}
use Rattle.child_session.proofs.ServedRequests.{none_served, fewer_served, one_more_served, maybe_served}
use Rattle.child_session.proofs.round.show_round.Goals as goal

pub loop-count-init : goal.loop-count-init
loop-count-init g c =
    let C = g.C.Children in
    let shown = shown_of c.args.answering.now c.args.showing.now.env in
    record {
      later = c.exchange.ensures.cause.later;
      starts = c.exchange.ensures.starts;
      live = c.exchange.ensures.live;
      attends = c.exchange.ensures.attends;
      kept = refl;
      way = begins_underway shown c.args.filer.now c.new-noted.result c.new-noted.ensures
          (λ done. Told C.tells (GoesOn c.args.child c.args.answering.now c.args.showing.now (C.state c.args.children.now) (C.state c.exchange.new.children) c.args.filer.now c.args.filer.now done c.in_ok-answer.answer))
          (λ told. way_begins _ _ _ _ _ _ _ (subst (λ frame. Exchanges c.args.child frame (C.state c.args.children.now) (C.state c.exchange.new.children) c.in_ok-answer.answer) (c.as_slice.ensures ∙ c.in_ok-frame.ensures) (c.in_ok-answer.ensures.answer told)));
      within = omega arith;
      served = none_served shown c.args.filer.now 0;
    }

pub loop-count-preserved : goal.loop-count-preserved
loop-count-preserved g c =
    let C = g.C.Children in
    let env = c.args.showing.now.env in
    let shown = shown_of c.args.answering.now env in
    let kept : c.loop-count.answering ≡ c.args.answering.now = c.loop-count.invariant.kept in
    let request = c.in-Asks.request in
    let filer1 = c.loop-count.filer in
    let exchange = exchange_with shown filer1 request in
    let turn : turn_at c.args.showing.now.claim c.loop-count.answer ≡ Asks request = sym c.turn_of.ensures ∙ c.in-Asks.is in
    let filed : c.take_turn.new.filer ≡ filed_after filer1 exchange =
    subst (λ table. c.take_turn.new.filer ≡ filed_after filer1 (exchange_with (shown_of table env) filer1 request)) kept c.in_ok-answer-in-Asks.ensures.filed in
    let noted : c.take_turn.new.noted ≡ noted_with shown c.loop-count.noted exchange =
    subst (λ table. c.take_turn.new.noted ≡ noted_with (shown_of table env) c.loop-count.noted (exchange_with (shown_of table env) filer1 request)) kept c.in_ok-answer-in-Asks.ensures.noted in
    record {
      later = omega (arith, c.loop-count.invariant.later, c.take_turn.ensures.reason.later);
      starts = c.take_turn.ensures.starts ∙ c.loop-count.invariant.starts;
      live = c.take_turn.ensures.live ∙ c.loop-count.invariant.live;
      attends = λ told. attends_then _ _ _ _ (c.loop-count.invariant.attends told) (c.take_turn.ensures.attends told);
      kept = c.take_turn.ensures.kept ∙ kept;
      way = next_underway shown c.args.filer.now c.loop-count.count filer1 c.take_turn.new.filer c.loop-count.noted c.take_turn.new.noted exchange _ _ c.loop-count.invariant.way filed noted
          (λ done goes told. way_goes c.args.child c.args.answering.now c.args.showing.now c.args.filer.now _ _ _ filer1 c.take_turn.new.filer done _ _ request (c.loop-count.invariant.attends told).same_says (goes told) turn filed
          (subst (λ table. Replies c.args.child (exchange_with (shown_of table env) filer1 request) (C.state c.loop-count.children) (C.state c.take_turn.new.children) c.in_ok-answer-in-Asks.answer) kept (c.in_ok-answer-in-Asks.ensures.answer told)));
      within = omega (arith, c.loop-count-test.true);
      served = one_more_served shown _ _ _ _ request c.loop-count.invariant.served filed;
    }

-- ---- it stops

pub returns-in_err-frame-clause-shown : goal.returns-in_err-frame-clause-shown
returns-in_err-frame-clause-shown g c = λ told.
    let C = g.C.Children in
    let k0 = C.state c.args.children.now in
    let p = err_from_is_err_and c.from_residual.result c.from_residual.ensures.1 in
    rw (p.1, p.2) (way_begins_not c.args.child c.args.answering.now c.args.showing.now c.args.filer.now k0 k0 Memory tt (changes_self c.args.child k0.known)
    (λ memory. sends_nothing c.args.child (round_frame c.args.showing.now.env) k0)).shown

pub returns-in_err-answer-clause-shown : goal.returns-in_err-answer-clause-shown
returns-in_err-answer-clause-shown g c = λ told.
    let C = g.C.Children in
    let k0 = C.state c.args.children.now in
    let k1 = C.state c.exchange.new.children in
    let fault = c.in_err-answer.field-0.0 in
    let p = err_from_is_err_and c.from_residual-in_err-answer.result c.from_residual-in_err-answer.ensures.1 in
    let sends = subst (λ frame. SendsOnce c.args.child frame k0 k1 (Err fault)) (c.as_slice.ensures ∙ c.in_ok-frame.ensures) (c.in_err-answer.ensures.sent told) in
    rw (p.1, p.2) (way_begins_not c.args.child c.args.answering.now c.args.showing.now c.args.filer.now k0 k1 (fault_of fault) (fault_is_free fault) (c.exchange.ensures.attends told).change
    (sends_once c.args.child (round_frame c.args.showing.now.env) k0 k1 fault sends)).shown

pub returns-in_err-answer-in-Asks-clause-shown : goal.returns-in_err-answer-in-Asks-clause-shown
returns-in_err-answer-in-Asks-clause-shown g c = λ told.
    let C = g.C.Children in
    let env = c.args.showing.now.env in
    let kept : c.loop-count.answering ≡ c.args.answering.now = c.loop-count.invariant.kept in
    let way = c.loop-count.invariant.way in
    let request = c.in-Asks.request in
    let filer1 = c.loop-count.filer in
    let k1 = C.state c.loop-count.children in
    let k2 = C.state c.take_turn.new.children in
    let fault = c.in_err-answer-in-Asks.field-0.0 in
    let turn : turn_at c.args.showing.now.claim c.loop-count.answer ≡ Asks request = sym c.turn_of.ensures ∙ c.in-Asks.is in
    let p = err_from_is_err_and c.from_residual-in_err-answer-in-Asks.result c.from_residual-in_err-answer-in-Asks.ensures.1 in
    let served = subst (λ table. Served (exchange_with (shown_of table env) filer1 request) filer1 c.take_turn.new.filer) kept c.take_turn.ensures.served in
    let few : length way.done < c.args.showing.now.limit = omega (arith, way.count_is, c.loop-count-test.true) in
    rw (p.1, p.2) (way_stops c.args.child c.args.answering.now c.args.showing.now c.args.filer.now (C.state c.args.children.now) k1 k2 filer1 c.take_turn.new.filer way.done c.loop-count.answer request fault
    c.in_err-answer-in-Asks.ensures.free few (way.goes told) way.filed turn served (c.take_turn.ensures.attends told).change
    (λ memory. subst (λ table. Stops c.args.child (exchange_with (shown_of table env) filer1 request) filer1 c.take_turn.new.filer k1 k2) kept (c.in_err-answer-in-Asks.ensures.sent told (ap Err memory)))).shown

pub returns-in_err-answer-in-Asks-clause-served : goal.returns-in_err-answer-in-Asks-clause-served
returns-in_err-answer-in-Asks-clause-served g c =
    let env = c.args.showing.now.env in
    let request = c.in-Asks.request in
    maybe_served (shown_of c.args.answering.now env) _ _ _ _ _ request c.loop-count.invariant.served
    (subst (λ table. Served (exchange_with (shown_of table env) c.loop-count.filer request) c.loop-count.filer c.take_turn.new.filer) c.loop-count.invariant.kept c.take_turn.ensures.served) c.loop-count-test.true

-- ---- it ends

pub returns-in_default-clause-reason : goal.returns-in_default-clause-reason
returns-in_default-clause-reason g c =
    let C = g.C.Children in
    end_has_reason (C.faults c.args.children.now) (C.faults c.loop-count.children) c.args.showing.now.claim c.args.showing.now.limit c.turn_of.result (answer_from c.loop-count.noted (claimed_by c.turn_of.result)) c.loop-count.invariant.later c.end_of.result c.end_of.ensures

pub returns-in_default-clause-starts : goal.returns-in_default-clause-starts
returns-in_default-clause-starts g c = c.loop-count.invariant.starts

pub returns-in_default-clause-live : goal.returns-in_default-clause-live
returns-in_default-clause-live g c = c.loop-count.invariant.live

pub returns-in_default-clause-attends : goal.returns-in_default-clause-attends
returns-in_default-clause-attends g c = c.loop-count.invariant.attends

pub returns-in_default-clause-kept : goal.returns-in_default-clause-kept
returns-in_default-clause-kept g c = c.loop-count.invariant.kept

pub returns-in_default-clause-due : goal.returns-in_default-clause-due
returns-in_default-clause-due g c =
    end_is_due c.args.showing.now c.loop-count.answer c.turn_of.result c.loop-count.noted (sym c.turn_of.ensures) c.end_of.result c.end_of.ensures

pub returns-in_default-clause-served : goal.returns-in_default-clause-served
returns-in_default-clause-served g c = fewer_served _ _ _ _ _ c.loop-count.invariant.served (omega (arith, c.loop-count-test.true))

pub returns-in_default-clause-shown : goal.returns-in_default-clause-shown
returns-in_default-clause-shown g c = λ told.
    let C = g.C.Children in
    let shown = shown_of c.args.answering.now c.args.showing.now.env in
    let way = c.loop-count.invariant.way in
    let all : length way.done + (c.args.showing.now.limit - c.loop-count.count) ≡ c.args.showing.now.limit = omega (arith, way.count_is, c.loop-count-test.true) in
    (way_closes c.args.child c.args.answering.now c.args.showing.now c.args.filer.now (C.state c.args.children.now) (C.state c.loop-count.children) c.loop-count.filer way.done c.loop-count.answer
    (c.args.showing.now.limit - c.loop-count.count) all (way.goes told) way.filed c.turn_of.result (sym c.turn_of.ensures) (λ request is. absurd (c.in_default.not-Asks request (search (rules, is)))) c.end_of.result
    (ends_noted shown c.loop-count.noted way.done way.noted_is c.args.showing.now.claim c.args.showing.now.limit c.turn_of.result c.end_of.result c.end_of.ensures)).shown

pub returns-clause-reason : goal.returns-clause-reason
returns-clause-reason g c =
    let C = g.C.Children in
    end_has_reason (C.faults c.args.children.now) (C.faults c.loop-count.children) c.args.showing.now.claim c.args.showing.now.limit c.turn_of-2.result (answer_from c.loop-count.noted (claimed_by c.turn_of-2.result)) c.loop-count.invariant.later c.end_of-2.result c.end_of-2.ensures

pub returns-clause-due : goal.returns-clause-due
returns-clause-due g c =
    end_is_due c.args.showing.now c.loop-count.answer c.turn_of-2.result c.loop-count.noted (sym c.turn_of-2.ensures) c.end_of-2.result c.end_of-2.ensures

pub returns-clause-served : goal.returns-clause-served
returns-clause-served g c = fewer_served _ _ _ _ _ c.loop-count.invariant.served c.loop-count.invariant.within

pub returns-clause-shown : goal.returns-clause-shown
returns-clause-shown g c = λ told.
    let C = g.C.Children in
    let shown = shown_of c.args.answering.now c.args.showing.now.env in
    let way = c.loop-count.invariant.way in
    let none : c.args.showing.now.limit - c.loop-count.count ≡ 0 = omega (arith, c.loop-count-test.false) in
    let all : length way.done + (c.args.showing.now.limit - c.loop-count.count) ≡ c.args.showing.now.limit = omega (arith, way.count_is, c.loop-count.invariant.within) in
    (way_closes c.args.child c.args.answering.now c.args.showing.now c.args.filer.now (C.state c.args.children.now) (C.state c.loop-count.children) c.loop-count.filer way.done c.loop-count.answer
    (c.args.showing.now.limit - c.loop-count.count) all (way.goes told) way.filed c.turn_of-2.result (sym c.turn_of-2.ensures) (λ request is. none) c.end_of-2.result
    (ends_noted shown c.loop-count.noted way.done way.noted_is c.args.showing.now.claim c.args.showing.now.limit c.turn_of-2.result c.end_of-2.result c.end_of-2.ensures)).shown
