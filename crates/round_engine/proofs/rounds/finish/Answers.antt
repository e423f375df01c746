use Rattle.std.proofs.Common.{◌≡◌, length, refl, rules}
use Rattle.std.proofs.lemmas.Result.{err_from_is_err_and}
use Rattle.round_engine.specs.Shown.{rounds_until}
use Rattle.round_engine.proofs.RoundsInTurn.{last_refused, last_memory, last_ends}
use Rattle.round_engine.proofs.rounds.finish.Goals as goal

pub returns-in_err-ask_all-clause-ends : goal.returns-in_err-ask_all-clause-ends
returns-in_err-ask_all-clause-ends g c = λ told processors stands.
    let C = g.C.Children in
    let e = err_from_is_err_and c.from_residual.result c.from_residual.ensures.1 in
    rw (e.1, e.2) (last_refused c.args.run.now processors c.args.last c.args.progress (C.state c.args.children.now) c.requires.last c.requires.none _ _ c.in_err-ask_all.field-0.0 (C.state c.ask_all.new.children)
    (c.in_err-ask_all.ensures.asks told processors stands))

pub returns-in_err-rounds_until-clause-ends : goal.returns-in_err-rounds_until-clause-ends
returns-in_err-rounds_until-clause-ends g c = λ told processors stands.
    let goes = c.in_ok-ask_all.ensures.asks told processors stands in
    let e = err_from_is_err_and c.from_residual-in_err-rounds_until.result c.from_residual-in_err-rounds_until.ensures.1 in
    rw (e.1, e.2) (last_memory c.args.run.now processors c.args.last c.args.progress (g.C.Children.state c.args.children.now) c.requires.last c.requires.none _ c.ask_all.new.so_far (g.C.Children.state c.ask_all.new.children) _ _ refl goes)

pub returns-clause-ends : goal.returns-clause-ends
returns-clause-ends g c = λ told processors stands.
    let C = g.C.Children in
    let p = c.args.progress in
    let p1 = c.ask_all.new.so_far in
    let is : c.in_ok-rounds_until.field-0 ≡ rounds_until c.args.last (length p.filer.made) p1 = search rules in
    last_ends c.args.run.now processors c.args.last p (C.state c.args.children.now) c.requires.last c.requires.none _ p1 (C.state c.ask_all.new.children) _ (c.in_ok-ask_all.ensures.asks told processors stands) is
