use Rattle.std.proofs.Common.{◌≡◌, ◌-◌, ◌+◌, [], suc, true, false, Ok, drop, length, refl, ap, ◌∙◌, subst, arith, rules}
use Rattle.std.specs.Prelude.{◌||◌, not}
use Rattle.std.specs.FinMap as fin
use Rattle.std.proofs.lemmas.Result.{err_from_is_err_and}
use Rattle.round_engine.specs.declared.rounds.Round.{Round}
use Rattle.project_units.specs.Faults.{stop_of}
use Rattle.project_units.specs.Entering.{RefusesAs}
use Rattle.project_units.specs.Units.{Entered, enter_all, all_of}
use Rattle.round_engine.specs.Run.{has_error, next_of, rounds_before_last}
use Rattle.project_units.specs.Creations.{creates_source, sources_among}
use Rattle.round_engine.proofs.AskedProcessors.{attends_none, attends_more, rounds_unbegun}
use Rattle.round_engine.proofs.RoundsInTurn.{AreUnderway, rounds_begin, rounds_many, rounds_stopped, rounds_last, rounds_unread, rounds_next}
use Rattle.round_engine.proofs.rounds.show_rounds.Goals as goal

pub returns-in_err-round-clause-ends : goal.returns-in_err-round-clause-ends
returns-in_err-round-clause-ends g c = λ told processors stands.
    let e = err_from_is_err_and c.from_residual.result c.from_residual.ensures.1 in
    rw (e.1, e.2) (rounds_unbegun c.args.run.now processors (g.C.Children.state c.args.children.now) stands c.args.progress _ refl rounds_before_last (next_of 1 (all_of c.args.project.now)) _)

pub loop-number-init : goal.loop-number-init
loop-number-init g c =
    let C = g.C.Children in
    let d = c.args.run.now in
    let k0 = C.state c.args.children.now in
    let is = c.in_ok-round.ensures in
    record {
      later = omega arith;
      starts = refl;
      live = refl;
      number = ap (λ (r : Round). r.number) is;
      over = ap (λ (r : Round). r.over) is;
      error = ap (λ (r : Round). r.error) is;
      each = c.requires.each;
      attends = λ told. attends_none d.group k0;
      goes = λ told. record { on = λ processors stands. rounds_begin d processors c.args.project.now c.args.progress k0 c.in_ok-round.round stands is };
    }

pub returns-in_err-ask_all-clause-ends : goal.returns-in_err-ask_all-clause-ends
returns-in_err-ask_all-clause-ends g c = λ told processors stands.
    let C = g.C.Children in
    let d = c.args.run.now in
    let table = c.args.project.now in
    let p0 = c.args.progress in
    let k0 = C.state c.args.children.now in
    let r = c.loop-number.round in
    let p = c.loop-number.progress in
    let k = C.state c.loop-number.children in
    let left = 64 - (c.loop-number.number + 1) in
    let one_left : 64 - c.loop-number.number ≡ suc left = omega (arith, c.loop-number-test.true) in
    let is = subst (λ n. AreUnderway d processors table p0 k0 n r p k) one_left ((c.loop-number.invariant.goes told).on processors stands) in
    let e = err_from_is_err_and c.from_residual-in_err-ask_all.result c.from_residual-in_err-ask_all.ensures.1 in
    rw (e.1, e.2) (rounds_stopped d processors table p0 k0 left r p k is _ _ c.in_err-ask_all.field-0.0 (C.state c.ask_all.new.children) (c.in_err-ask_all.ensures.asks told processors is.stands))

pub returns-then-is_followed_by_last-clause-ends : goal.returns-then-is_followed_by_last-clause-ends
returns-then-is_followed_by_last-clause-ends g c = λ told processors stands.
    let C = g.C.Children in
    let d = c.args.run.now in
    let table = c.args.project.now in
    let p0 = c.args.progress in
    let k0 = C.state c.args.children.now in
    let r = c.loop-number.round in
    let p = c.loop-number.progress in
    let k = C.state c.loop-number.children in
    let p1 = c.ask_all.new.so_far in
    let k1 = C.state c.ask_all.new.children in
    let left = 64 - (c.loop-number.number + 1) in
    let one_left : 64 - c.loop-number.number ≡ suc left = omega (arith, c.loop-number-test.true) in
    let is = subst (λ n. AreUnderway d processors table p0 k0 n r p k) one_left ((c.loop-number.invariant.goes told).on processors stands) in
    let goes = c.in_ok-ask_all.ensures.asks told processors is.stands in
    let closes : (has_error (drop (length p.messages) p1.messages) || not (creates_source (drop (length p.filer.made) p1.filer.made))) ≡ true = search rules in
    let error_is : c.has_error-error.result ≡ has_error (drop (length p.messages) p1.messages) = search rules in
    let last : Round = record { number = c.loop-number.number + 1; over = true; error = c.has_error-error.result; table = r.table; roots = [] } in
    let number_is : c.loop-number.number + 1 ≡ suc r.number = omega (arith, c.loop-number.invariant.number) in
    rounds_last d processors table p0 k0 left r p k is _ p1 k1 goes (c.in_ok-ask_all.ensures.attends told).same_says _ c.finish.result (C.state c.finish.new.children) last closes
    number_is error_is refl (c.finish.ensures.ends told processors goes.ready)

pub returns-in_err-entered-clause-ends : goal.returns-in_err-entered-clause-ends
returns-in_err-entered-clause-ends g c = λ told processors stands.
    let C = g.C.Children in
    let d = c.args.run.now in
    let table = c.args.project.now in
    let p0 = c.args.progress in
    let k0 = C.state c.args.children.now in
    let r = c.loop-number.round in
    let p = c.loop-number.progress in
    let k = C.state c.loop-number.children in
    let p1 = c.ask_all.new.so_far in
    let k1 = C.state c.ask_all.new.children in
    let left = 64 - (c.loop-number.number + 1) in
    let one_left : 64 - c.loop-number.number ≡ suc left = omega (arith, c.loop-number-test.true) in
    let is = subst (λ n. AreUnderway d processors table p0 k0 n r p k) one_left ((c.loop-number.invariant.goes told).on processors stands) in
    let goes = c.in_ok-ask_all.ensures.asks told processors is.stands in
    let more : (has_error (drop (length p.messages) p1.messages) || not (creates_source (drop (length p.filer.made) p1.filer.made))) ≡ false = search rules in
    let refuses : RefusesAs (enter_all r.table (fin.entries (sources_among (drop (length p.filer.made) p1.filer.made)))) (stop_of c.in_err-entered.field-0.0) = search rules in
    let e = err_from_is_err_and c.from_residual-in_err-entered.result c.from_residual-in_err-entered.ensures.1 in
    rw (e.1, e.2) (rounds_unread d processors table p0 k0 left r p k is _ p1 k1 goes (c.in_ok-ask_all.ensures.attends told).same_says _ c.in_err-entered.field-0.0 more refuses)

pub loop-number-preserved : goal.loop-number-preserved
loop-number-preserved g c =
    let C = g.C.Children in
    let d = c.args.run.now in
    let k0 = C.state c.args.children.now in
    let k = C.state c.loop-number.children in
    let k1 = C.state c.ask_all.new.children in
    record {
      later = omega (arith, c.loop-number.invariant.later, c.ask_all.ensures.reason.later);
      starts = c.ask_all.ensures.starts ∙ c.loop-number.invariant.starts;
      live = c.ask_all.ensures.live ∙ c.loop-number.invariant.live;
      number = refl;
      over = c.loop-number.invariant.over;
      error = c.loop-number.invariant.error;
      each = c.ask_all.ensures.still;
      attends = λ told. attends_more d.group k0 k k1 (c.loop-number.invariant.attends told) (c.ask_all.ensures.attends told);
      goes = λ told. record {
        on = λ processors stands.
            let table = c.args.project.now in
            let p0 = c.args.progress in
            let r = c.loop-number.round in
            let p = c.loop-number.progress in
            let p1 = c.ask_all.new.so_far in
            let left = 64 - (c.loop-number.number + 1) in
            let one_left : 64 - c.loop-number.number ≡ suc left = omega (arith, c.loop-number-test.true) in
            let is = subst (λ n. AreUnderway d processors table p0 k0 n r p k) one_left ((c.loop-number.invariant.goes told).on processors stands) in
            let goes = c.in_ok-ask_all.ensures.asks told processors is.stands in
            let more : (has_error (drop (length p.messages) p1.messages) || not (creates_source (drop (length p.filer.made) p1.filer.made))) ≡ false = search rules in
            let entered : Entered = record { table = c.enter_all.new.table; names = c.in_ok-entered.entered } in
            let enters : enter_all r.table (fin.entries (sources_among (drop (length p.filer.made) p1.filer.made))) ≡ Ok entered = search rules in
            let next : Round = record { number = c.loop-number.number + 1; over = r.over; error = r.error; table = entered.table; roots = entered.names } in
            let number_is : c.loop-number.number + 1 ≡ suc r.number = omega (arith, c.loop-number.invariant.number) in
            let is_next : next ≡ next_of (suc r.number) entered =
            ap (λ n. record { number = n; over = r.over; error = r.error; table = entered.table; roots = entered.names }) number_is
            ∙ ap (λ b. record { number = suc r.number; over = b; error = r.error; table = entered.table; roots = entered.names }) c.loop-number.invariant.over
            ∙ ap (λ b. record { number = suc r.number; over = false; error = b; table = entered.table; roots = entered.names }) c.loop-number.invariant.error in
            rounds_next d processors table p0 k0 left r p k is _ p1 k1 goes (c.in_ok-ask_all.ensures.attends told).same_says entered next more enters is_next;
      };
    }

pub returns-clause-ends : goal.returns-clause-ends
returns-clause-ends g c = λ told processors stands.
    let none : 64 - c.loop-number.number ≡ 0 = omega (arith, c.loop-number-test.false) in
    rounds_many c.args.run.now processors c.args.project.now c.args.progress (g.C.Children.state c.args.children.now) _ (64 - c.loop-number.number) c.loop-number.round c.loop-number.progress (g.C.Children.state c.loop-number.children) none
    ((c.loop-number.invariant.goes told).on processors stands)
