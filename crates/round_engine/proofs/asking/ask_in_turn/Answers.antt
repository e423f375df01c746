use Rattle.std.proofs.Common.{◌≡◌, ◌<◌, ℕ, List, [], Contains, length, map, get_or, refl, sym, ap, ◌∙◌, subst, arith}
use Rattle.std.specs.List.{AllByRecursion}
use Rattle.std.proofs.lemmas.Result.{err_from_is_err_and}
use Rattle.round_env.specs.declared.environment.RoundEnv.{RoundEnv}
use Rattle.round_engine.specs.Remembering.{roots_with}
use Rattle.round_engine.specs.Run.{present_in, offered_names, env_of}
use Rattle.processor_claims.specs.Turns.{offered, IsWithin}
use Rattle.round_engine.proofs.AskedInTurn.{within_number, within_names, within_later}
use Rattle.round_engine.proofs.AskedProcessors.{attends_none, attends_more}
use Rattle.round_engine.proofs.TurnsOfARound.{reason_later, asking_begins, asking_ends, asking_memory, asking_goes, asking_stops}
use Rattle.round_engine.proofs.asking.ask_in_turn.Goals as goal

pub loop-number-init : goal.loop-number-init
loop-number-init g c =
    let C = g.C.Children in
    let d = c.args.run.now in
    let k0 = C.state c.args.children.now in
    record {
      later = omega arith;
      starts = refl;
      live = refl;
      table = c.requires.table;
      still = c.requires.each;
      within = subst (λ (xs : List (List ℕ)). IsWithin (length d.supported) (length xs) c.args.turn) c.requires.names c.requires.within;
      attends = λ told. attends_none d.group k0;
      asks = λ told. record {
        on = λ processors stands. asking_begins d c.args.round.now c.args.so_far.now k0 processors c.args.turn stands c.requires.listed.group c.args.present.now c.requires.names
            c.requires.coming c.requires.waiting;
      };
    }

pub returns-in_err-offered-clause-asks : goal.returns-in_err-offered-clause-asks
returns-in_err-offered-clause-asks g c = λ told processors stands.
    let is = (c.loop-number.invariant.asks told).on processors stands in
    let e = err_from_is_err_and c.from_residual.result c.from_residual.ensures.1 in
    rw (e.1, e.2) (asking_memory c.args.run.now c.args.round.now c.args.so_far.now (g.C.Children.state c.args.children.now) processors c.loop-number.so_far (g.C.Children.state c.loop-number.children) c.loop-number.turn
    c.loop-number.claimed is _ _ refl)

pub returns-in_err-env-clause-asks : goal.returns-in_err-env-clause-asks
returns-in_err-env-clause-asks g c = λ told processors stands.
    let is = (c.loop-number.invariant.asks told).on processors stands in
    let e = err_from_is_err_and c.from_residual-in_err-env.result c.from_residual-in_err-env.ensures.1 in
    rw (e.1, e.2) (asking_memory c.args.run.now c.args.round.now c.args.so_far.now (g.C.Children.state c.args.children.now) processors c.loop-number.so_far (g.C.Children.state c.loop-number.children) c.loop-number.turn
    c.loop-number.claimed is _ _ refl)

pub returns-clause-asks : goal.returns-clause-asks
returns-clause-asks g c = λ told processors stands.
    let C = g.C.Children in
    let is = (c.loop-number.invariant.asks told).on processors stands in
    asking_ends c.args.run.now c.args.round.now c.args.so_far.now (C.state c.args.children.now) processors c.loop-number.so_far (C.state c.loop-number.children) c.loop-number.turn c.loop-number.claimed is _ c.in_default.ensures.nobody

pub offered_names-requires : goal.offered_names-requires
offered_names-requires g c =
    let d = c.args.run.now in
    subst (AllByRecursion (λ at. at < length c.as_slice.result.now)) (sym (c.as_slice-in-Some.ensures ∙ c.offered.ensures))
    (subst (λ (xs : List (List ℕ)). AllByRecursion (λ at. at < length xs) (offered c.next.new.self)) (sym (c.as_slice.ensures ∙ c.requires.names))
    (within_names (length d.supported) (length (present_in c.args.round.now)) c.loop-number.turn c.loop-number.claimed c.in-Some.number c.next.new.self c.loop-number.invariant.within c.in-Some.ensures.asks))

pub ask-requires-clause-number : goal.ask-requires-clause-number
ask-requires-clause-number g c =
    within_number (length c.args.run.now.supported) (length (present_in c.args.round.now)) c.loop-number.turn c.loop-number.claimed c.in-Some.number c.next.new.self c.loop-number.invariant.within c.in-Some.ensures.asks

pub ask-requires-clause-lives : goal.ask-requires-clause-lives
ask-requires-clause-lives g c = subst (λ live. AllByRecursion (Contains live) c.args.run.now.group) (sym c.loop-number.invariant.live) c.requires.lives

pub returns-in_err-claimed-clause-reason : goal.returns-in_err-claimed-clause-reason
returns-in_err-claimed-clause-reason g c =
    let e = err_from_is_err_and c.from_residual-in_err-claimed.result c.from_residual-in_err-claimed.ensures.1 in
    rw (e.1, e.2) (reason_later (g.C.Children.faults c.args.children.now) (g.C.Children.faults c.loop-number.children) (g.C.Children.faults c.ask.new.children) _
    c.loop-number.invariant.later c.in_err-claimed.ensures.reason)

pub returns-in_err-claimed-clause-named : goal.returns-in_err-claimed-clause-named
returns-in_err-claimed-clause-named g c =
    let e = err_from_is_err_and c.from_residual-in_err-claimed.result c.from_residual-in_err-claimed.ensures.1 in
    rw (e.1, e.2) c.in_err-claimed.ensures.named

pub returns-in_err-claimed-clause-due : goal.returns-in_err-claimed-clause-due
returns-in_err-claimed-clause-due g c =
    let e = err_from_is_err_and c.from_residual-in_err-claimed.result c.from_residual-in_err-claimed.ensures.1 in
    rw (e.1, e.2) c.in_err-claimed.ensures.due

pub returns-in_err-claimed-clause-asks : goal.returns-in_err-claimed-clause-asks
returns-in_err-claimed-clause-asks g c = λ told processors stands.
    let C = g.C.Children in
    let r = c.args.round.now in
    let new = c.next.new.self in
    let is = (c.loop-number.invariant.asks told).on processors stands in
    let names_are : c.in_ok-offered.offered ≡ offered_names r (offered new) =
    c.in_ok-offered.ensures
    ∙ ap (λ xs. map (λ at. get_or xs at []) c.as_slice-in-Some.result.now) (c.as_slice.ensures ∙ c.requires.names)
    ∙ ap (map (λ at. get_or (present_in r) at [])) (c.as_slice-in-Some.ensures ∙ c.offered.ensures) in
    let env_is : c.in_ok-env.env ≡ env_of r (offered_names r (offered new)) = c.in_ok-env.ensures ∙ ap (env_of r) names_are in
    let e = err_from_is_err_and c.from_residual-in_err-claimed.result c.from_residual-in_err-claimed.ensures.1 in
    rw (e.1, e.2) (asking_stops c.args.run.now r c.args.so_far.now (C.state c.args.children.now) processors c.loop-number.so_far (C.state c.loop-number.children) c.loop-number.turn c.loop-number.claimed is
    c.in-Some.number new c.in-Some.ensures.asks c.in-Some.ensures.fewer c.loop-number.answering c.in_ok-env.env c.loop-number.invariant.table env_is _ _ c.in_err-claimed.field-0.0 (C.state c.ask.new.children) (c.in_err-claimed.ensures.asks told processors is.stands))

pub loop-number-preserved : goal.loop-number-preserved
loop-number-preserved g c =
    let C = g.C.Children in
    let d = c.args.run.now in
    let r = c.args.round.now in
    let k0 = C.state c.args.children.now in
    let k = C.state c.loop-number.children in
    let k1 = C.state c.ask.new.children in
    let turn = c.loop-number.turn in
    let new = c.next.new.self in
    let names_are : c.in_ok-offered.offered ≡ offered_names r (offered new) =
    c.in_ok-offered.ensures
    ∙ ap (λ xs. map (λ at. get_or xs at []) c.as_slice-in-Some.result.now) (c.as_slice.ensures ∙ c.requires.names)
    ∙ ap (map (λ at. get_or (present_in r) at [])) (c.as_slice-in-Some.ensures ∙ c.offered.ensures) in
    let env_is : c.in_ok-env.env ≡ env_of r (offered_names r (offered new)) = c.in_ok-env.ensures ∙ ap (env_of r) names_are in
    record {
      later = omega (arith, c.loop-number.invariant.later, c.ask.ensures.reason.later);
      starts = c.ask.ensures.starts ∙ c.loop-number.invariant.starts;
      live = c.ask.ensures.live ∙ c.loop-number.invariant.live;
      table = c.ask.ensures.kept ∙ c.loop-number.invariant.table;
      still = c.ask.ensures.still;
      within = within_later (length d.supported) (length (present_in r)) turn c.loop-number.claimed c.in-Some.number new c.loop-number.invariant.within c.in-Some.ensures.asks;
      attends = λ told. attends_more d.group k0 k k1 (c.loop-number.invariant.attends told) (c.ask.ensures.attends told);
      asks = λ told. record {
        on = λ processors stands.
            let is = (c.loop-number.invariant.asks told).on processors stands in
            asking_goes d r c.args.so_far.now k0 processors c.loop-number.so_far k turn c.loop-number.claimed is c.in-Some.number new c.in-Some.ensures.asks c.in-Some.ensures.fewer c.loop-number.answering c.in_ok-env.env c.loop-number.invariant.table env_is
            c.ask.new.progress k1 c.in_ok-claimed.claimed (c.in_ok-claimed.ensures.asks told processors is.stands) (c.ask.ensures.attends told).same_says;
      };
    }

pub ask-requires-clause-table : goal.ask-requires-clause-table
ask-requires-clause-table g c = c.table-table.ensures ∙ sym c.loop-number.invariant.table

pub ask-requires-clause-roots : goal.ask-requires-clause-roots
ask-requires-clause-roots g c =
    let r = c.args.round.now in
    c.requires.roots ∙ ap (λ table. roots_with table r.roots) (sym c.table-table.ensures) ∙ ap (λ (env : RoundEnv). roots_with c.table-table.result.now env.roots) (sym c.in_ok-env.ensures)
