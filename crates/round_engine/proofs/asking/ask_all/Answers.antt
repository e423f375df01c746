use Rattle.std.proofs.Common.{refl}
use Rattle.std.proofs.lemmas.Result.{err_from_is_err_and}
use Rattle.round_engine.proofs.AskedProcessors.{round_unbegun}
use Rattle.round_engine.proofs.EndedRounds.{round_refused, round_memory, round_ends}
use Rattle.round_engine.proofs.asking.ask_all.Goals as goal

pub returns-in_err-roots-clause-asks : goal.returns-in_err-roots-clause-asks
returns-in_err-roots-clause-asks g c = λ told processors stands.
    let e = err_from_is_err_and c.from_residual.result c.from_residual.ensures.1 in
    rw (e.1, e.2) (round_unbegun c.args.run.now processors (g.C.Children.state c.args.children.now) stands c.args.so_far.now _ refl c.args.round.now _)

pub returns-in_err-present-clause-asks : goal.returns-in_err-present-clause-asks
returns-in_err-present-clause-asks g c = λ told processors stands.
    let e = err_from_is_err_and c.from_residual-in_err-present.result c.from_residual-in_err-present.ensures.1 in
    rw (e.1, e.2) (round_unbegun c.args.run.now processors (g.C.Children.state c.args.children.now) stands c.args.so_far.now _ refl c.args.round.now _)

pub returns-in_err-turn-clause-asks : goal.returns-in_err-turn-clause-asks
returns-in_err-turn-clause-asks g c = λ told processors stands.
    let e = err_from_is_err_and c.from_residual-in_err-turn.result c.from_residual-in_err-turn.ensures.1 in
    rw (e.1, e.2) (round_unbegun c.args.run.now processors (g.C.Children.state c.args.children.now) stands c.args.so_far.now _ refl c.args.round.now _)

pub returns-in_err-answering-clause-asks : goal.returns-in_err-answering-clause-asks
returns-in_err-answering-clause-asks g c = λ told processors stands.
    let e = err_from_is_err_and c.from_residual-in_err-answering.result c.from_residual-in_err-answering.ensures.1 in
    rw (e.1, e.2) (round_unbegun c.args.run.now processors (g.C.Children.state c.args.children.now) stands c.args.so_far.now _ refl c.args.round.now _)

pub returns-in-Ok-clause-asks : goal.returns-in-Ok-clause-asks
returns-in-Ok-clause-asks g c = λ told processors stands.
    round_ends c.args.run.now c.args.round.now processors c.args.so_far.now (g.C.Children.state c.args.children.now) _ c.ask_in_turn-asked.new.so_far (g.C.Children.state c.ask_in_turn-asked.new.children)
    (c.in-Ok.ensures.asks told processors stands) _ c.end_round.new.past c.in_ok-end_round-in-Ok.ensures

pub returns-in_err-end_round-in-Ok-clause-asks : goal.returns-in_err-end_round-in-Ok-clause-asks
returns-in_err-end_round-in-Ok-clause-asks g c = λ told processors stands.
    let e = err_from_is_err_and c.from_residual-in_err-end_round-in-Ok.result c.from_residual-in_err-end_round-in-Ok.ensures.1 in
    rw (e.1, e.2) (round_memory c.args.run.now c.args.round.now processors c.args.so_far.now (g.C.Children.state c.args.children.now) _ c.ask_in_turn-asked.new.so_far (g.C.Children.state c.ask_in_turn-asked.new.children)
    (c.in-Ok.ensures.asks told processors stands) _ _ refl)

pub returns-clause-asks : goal.returns-clause-asks
returns-clause-asks g c = λ told processors stands.
    round_refused c.args.run.now c.args.round.now processors c.args.so_far.now (g.C.Children.state c.args.children.now) _ _ c.in-Err.refusal (g.C.Children.state c.ask_in_turn-asked.new.children)
    (c.in-Err.ensures.asks told processors stands)
