use Rattle.std.proofs.Common.{◌≡◌, ◌<◌, [], ◌∷◌, ◌++◌, Ok, Err, length, drop, get_or, Contains, refl, sym, ap, ◌∙◌, subst, arith, rules}
use Rattle.std.proofs.lemmas.List.{get_or_default, get_or_read}
use Rattle.std.proofs.lemmas.List.Elements.{Contains-get_or}
use Rattle.std.proofs.lemmas.Result.{err_from_is_err_and}
use Rattle.apt_outside.specs.Child.{Attends}
use Rattle.processor_claims.specs.declared.supported.Supported.{Supported}
use Rattle.child_session.specs.Talk.{WasAnswered}
use Rattle.child_session.specs.Round as session
use Rattle.project_units.specs.Refusals.{Names, named_by}
use Rattle.project_units.specs.Faults.{stop_of}
use Rattle.round_engine.specs.Faults.{of_session}
use Rattle.child_session.specs.declared.round.Showing.{Showing}
use Rattle.round_engine.specs.Remembering.{processed_by, roots_with}
use Rattle.round_engine.specs.Run.{supports_nothing, most_questions, claim_at, kind_among, showing}
use Rattle.round_engine.specs.Shown.{shown_discovered}
use Rattle.round_engine.proofs.AskedProcessors.{attends_at, step_unbegun, asks_err, asks_memory, asks_ok}
use Rattle.round_engine.proofs.DueRefusals.{due_session}
use Rattle.round_engine.proofs.ProcessorsInOrder.{some_among}
use Rattle.round_engine.proofs.asking.ask.Goals as goal

pub returns-in_err-name-clause-asks : goal.returns-in_err-name-clause-asks
returns-in_err-name-clause-asks g c = λ told processors stands.
    let e = err_from_is_err_and c.from_residual.result c.from_residual.ensures.1 in
    rw (e.1, e.2) (step_unbegun c.args.run.now processors (g.C.Children.state c.args.children.now) stands c.args.progress.now _ refl c.args.answering.now c.args.env c.args.number _)

pub returns-in_err-showing-clause-asks : goal.returns-in_err-showing-clause-asks
returns-in_err-showing-clause-asks g c = λ told processors stands.
    let e = err_from_is_err_and c.from_residual-in_err-showing.result c.from_residual-in_err-showing.ensures.1 in
    rw (e.1, e.2) (step_unbegun c.args.run.now processors (g.C.Children.state c.args.children.now) stands c.args.progress.now _ refl c.args.answering.now c.args.env c.args.number _)

pub returns-in-Err-clause-attends : goal.returns-in-Err-clause-attends
returns-in-Err-clause-attends g c = λ told.
    let C = g.C.Children in
    let d = c.args.run.now in
    let lt : c.args.number < length d.group = omega (arith, c.requires.number, c.requires.listed.group) in
    let child_is : get_or c.as_slice.result.now c.from-at.result 0 ≡ get_or d.group c.args.number 0 = ap (λ n. get_or c.as_slice.result.now n 0) c.from-at.ensures ∙ ap (λ xs. get_or xs c.args.number 0) c.as_slice.ensures in
    attends_at d.group c.args.number (C.state c.args.children.now) (C.state c.show_round.new.children) lt
    (subst (λ n. Attends n (C.state c.args.children.now) (C.state c.show_round.new.children)) child_is (c.in-Err.ensures.attends told))

pub returns-in_err-place-clause-attends : goal.returns-in_err-place-clause-attends
returns-in_err-place-clause-attends g c = λ told.
    let C = g.C.Children in
    let d = c.args.run.now in
    let lt : c.args.number < length d.group = omega (arith, c.requires.number, c.requires.listed.group) in
    let child_is : get_or c.as_slice.result.now c.from-at.result 0 ≡ get_or d.group c.args.number 0 = ap (λ n. get_or c.as_slice.result.now n 0) c.from-at.ensures ∙ ap (λ xs. get_or xs c.args.number 0) c.as_slice.ensures in
    attends_at d.group c.args.number (C.state c.args.children.now) (C.state c.show_round.new.children) lt
    (subst (λ n. Attends n (C.state c.args.children.now) (C.state c.show_round.new.children)) child_is (c.in-Ok.ensures.attends told))

pub returns-in_err-remember-clause-attends : goal.returns-in_err-remember-clause-attends
returns-in_err-remember-clause-attends g c = λ told.
    let C = g.C.Children in
    let d = c.args.run.now in
    let lt : c.args.number < length d.group = omega (arith, c.requires.number, c.requires.listed.group) in
    let child_is : get_or c.as_slice.result.now c.from-at.result 0 ≡ get_or d.group c.args.number 0 = ap (λ n. get_or c.as_slice.result.now n 0) c.from-at.ensures ∙ ap (λ xs. get_or xs c.args.number 0) c.as_slice.ensures in
    attends_at d.group c.args.number (C.state c.args.children.now) (C.state c.show_round.new.children) lt
    (subst (λ n. Attends n (C.state c.args.children.now) (C.state c.show_round.new.children)) child_is (c.in-Ok.ensures.attends told))

pub returns-clause-attends : goal.returns-clause-attends
returns-clause-attends g c = λ told.
    let C = g.C.Children in
    let d = c.args.run.now in
    let lt : c.args.number < length d.group = omega (arith, c.requires.number, c.requires.listed.group) in
    let child_is : get_or c.as_slice.result.now c.from-at.result 0 ≡ get_or d.group c.args.number 0 = ap (λ n. get_or c.as_slice.result.now n 0) c.from-at.ensures ∙ ap (λ xs. get_or xs c.args.number 0) c.as_slice.ensures in
    attends_at d.group c.args.number (C.state c.args.children.now) (C.state c.show_round.new.children) lt
    (subst (λ n. Attends n (C.state c.args.children.now) (C.state c.show_round.new.children)) child_is (c.in-Ok.ensures.attends told))

pub returns-in-Err-clause-asks : goal.returns-in-Err-clause-asks
returns-in-Err-clause-asks g c = λ told processors stands.
    let C = g.C.Children in
    let k0 = C.state c.args.children.now in
    let k1 = C.state c.show_round.new.children in
    let d = c.args.run.now in
    let number = c.args.number in
    let lt : number < length d.group = omega (arith, c.requires.number, c.requires.listed.group) in
    let supported = c.index-as_slice-at-2.result in
    let claim_is : (get_or c.as_slice-3.result.now c.from-at.result supported).claim ≡ claim_at (shown_discovered k0.says processors d) number =
    ap (λ n. (get_or c.as_slice-3.result.now n supported).claim) c.from-at.ensures ∙ ap (λ xs. (get_or xs number supported).claim) c.as_slice-3.ensures
    ∙ ap (λ (s : Supported). s.claim) (get_or_default d.supported number supported supports_nothing c.requires.number) in
    let showing_is : c.in_ok-showing.showing ≡ showing c.args.env (claim_at (shown_discovered k0.says processors d) number) =
    c.in_ok-showing.ensures ∙ ap (λ claim. showing c.args.env claim) claim_is in
    let child_is : get_or c.as_slice.result.now c.from-at.result 0 ≡ get_or d.group number 0 = ap (λ n. get_or c.as_slice.result.now n 0) c.from-at.ensures ∙ ap (λ xs. get_or xs number 0) c.as_slice.ensures in
    let attends = subst (λ n. Attends n k0 k1) child_is (c.in-Err.ensures.attends told) in
    let shows = subst (λ s. WasAnswered (get_or d.group number 0) k0 k1 (session.Shows k0.says c.args.answering.now s c.args.progress.now.filer c.show_round.new.filer (Err c.in-Err.fault))) showing_is
    (subst (λ n. WasAnswered n k0 k1 (session.Shows k0.says c.args.answering.now c.in_ok-showing.showing c.args.progress.now.filer c.show_round.new.filer (Err c.in-Err.fault))) child_is (c.in-Err.ensures.shown told)) in
    let inside : c.from-at.result < length c.as_slice-2.result.now = omega (arith, c.from-at.ensures, ap length c.as_slice-2.ensures, c.requires.number, c.requires.listed.names) in
    let name_is : c.index-as_slice-at.result ≡ get_or d.names number [] = get_or_read c.as_slice-2.result.now c.from-at.result c.index-as_slice-at.result inside c.index-as_slice-at.is []
    ∙ ap (λ n. get_or c.as_slice-2.result.now n []) c.from-at.ensures ∙ ap (λ xs. get_or xs number []) c.as_slice-2.ensures in
    let due_as = c.refusal_by.ensures.is ∙ ap (λ n. of_session n c.in-Err.fault) (c.in_ok-name.ensures ∙ name_is) in
    asks_err d k0 k1 number lt c.args.answering.now c.args.env c.args.progress.now c.show_round.new.filer attends processors stands _ c.in-Err.fault c.refusal_by.result shows due_as

pub returns-in_err-place-clause-asks : goal.returns-in_err-place-clause-asks
returns-in_err-place-clause-asks g c = λ told processors stands.
    let C = g.C.Children in
    let k0 = C.state c.args.children.now in
    let k1 = C.state c.show_round.new.children in
    let d = c.args.run.now in
    let number = c.args.number in
    let lt : number < length d.group = omega (arith, c.requires.number, c.requires.listed.group) in
    let supported = c.index-as_slice-at-2.result in
    let claim_is : (get_or c.as_slice-3.result.now c.from-at.result supported).claim ≡ claim_at (shown_discovered k0.says processors d) number =
    ap (λ n. (get_or c.as_slice-3.result.now n supported).claim) c.from-at.ensures ∙ ap (λ xs. (get_or xs number supported).claim) c.as_slice-3.ensures
    ∙ ap (λ (s : Supported). s.claim) (get_or_default d.supported number supported supports_nothing c.requires.number) in
    let showing_is : c.in_ok-showing.showing ≡ showing c.args.env (claim_at (shown_discovered k0.says processors d) number) =
    c.in_ok-showing.ensures ∙ ap (λ claim. showing c.args.env claim) claim_is in
    let child_is : get_or c.as_slice.result.now c.from-at.result 0 ≡ get_or d.group number 0 = ap (λ n. get_or c.as_slice.result.now n 0) c.from-at.ensures ∙ ap (λ xs. get_or xs number 0) c.as_slice.ensures in
    let attends = subst (λ n. Attends n k0 k1) child_is (c.in-Ok.ensures.attends told) in
    let shows = subst (λ s. WasAnswered (get_or d.group number 0) k0 k1 (session.Shows k0.says c.args.answering.now s c.args.progress.now.filer c.show_round.new.filer (Ok c.in-Ok.answer))) showing_is
    (subst (λ n. WasAnswered n k0 k1 (session.Shows k0.says c.args.answering.now c.in_ok-showing.showing c.args.progress.now.filer c.show_round.new.filer (Ok c.in-Ok.answer))) child_is (c.in-Ok.ensures.shown told)) in
    let e = err_from_is_err_and c.from_residual-in_err-place.result c.from_residual-in_err-place.ensures.1 in
    rw (e.1, e.2) (asks_memory d k0 k1 number lt c.args.answering.now c.args.env c.args.progress.now c.show_round.new.filer attends processors stands _ c.in-Ok.answer _ shows refl)

pub returns-in_err-remember-clause-asks : goal.returns-in_err-remember-clause-asks
returns-in_err-remember-clause-asks g c = λ told processors stands.
    let C = g.C.Children in
    let k0 = C.state c.args.children.now in
    let k1 = C.state c.show_round.new.children in
    let d = c.args.run.now in
    let number = c.args.number in
    let lt : number < length d.group = omega (arith, c.requires.number, c.requires.listed.group) in
    let supported = c.index-as_slice-at-2.result in
    let claim_is : (get_or c.as_slice-3.result.now c.from-at.result supported).claim ≡ claim_at (shown_discovered k0.says processors d) number =
    ap (λ n. (get_or c.as_slice-3.result.now n supported).claim) c.from-at.ensures ∙ ap (λ xs. (get_or xs number supported).claim) c.as_slice-3.ensures
    ∙ ap (λ (s : Supported). s.claim) (get_or_default d.supported number supported supports_nothing c.requires.number) in
    let showing_is : c.in_ok-showing.showing ≡ showing c.args.env (claim_at (shown_discovered k0.says processors d) number) =
    c.in_ok-showing.ensures ∙ ap (λ claim. showing c.args.env claim) claim_is in
    let child_is : get_or c.as_slice.result.now c.from-at.result 0 ≡ get_or d.group number 0 = ap (λ n. get_or c.as_slice.result.now n 0) c.from-at.ensures ∙ ap (λ xs. get_or xs number 0) c.as_slice.ensures in
    let attends = subst (λ n. Attends n k0 k1) child_is (c.in-Ok.ensures.attends told) in
    let shows = subst (λ s. WasAnswered (get_or d.group number 0) k0 k1 (session.Shows k0.says c.args.answering.now s c.args.progress.now.filer c.show_round.new.filer (Ok c.in-Ok.answer))) showing_is
    (subst (λ n. WasAnswered n k0 k1 (session.Shows k0.says c.args.answering.now c.in_ok-showing.showing c.args.progress.now.filer c.show_round.new.filer (Ok c.in-Ok.answer))) child_is (c.in-Ok.ensures.shown told)) in
    let e = err_from_is_err_and c.from_residual-in_err-remember.result c.from_residual-in_err-remember.ensures.1 in
    rw (e.1, e.2) (asks_memory d k0 k1 number lt c.args.answering.now c.args.env c.args.progress.now c.show_round.new.filer attends processors stands _ c.in-Ok.answer _ shows refl)

pub returns-clause-asks : goal.returns-clause-asks
returns-clause-asks g c = λ told processors stands.
    let C = g.C.Children in
    let k0 = C.state c.args.children.now in
    let k1 = C.state c.show_round.new.children in
    let d = c.args.run.now in
    let number = c.args.number in
    let lt : number < length d.group = omega (arith, c.requires.number, c.requires.listed.group) in
    let supported = c.index-as_slice-at-2.result in
    let claim_is : (get_or c.as_slice-3.result.now c.from-at.result supported).claim ≡ claim_at (shown_discovered k0.says processors d) number =
    ap (λ n. (get_or c.as_slice-3.result.now n supported).claim) c.from-at.ensures ∙ ap (λ xs. (get_or xs number supported).claim) c.as_slice-3.ensures
    ∙ ap (λ (s : Supported). s.claim) (get_or_default d.supported number supported supports_nothing c.requires.number) in
    let showing_is : c.in_ok-showing.showing ≡ showing c.args.env (claim_at (shown_discovered k0.says processors d) number) =
    c.in_ok-showing.ensures ∙ ap (λ claim. showing c.args.env claim) claim_is in
    let child_is : get_or c.as_slice.result.now c.from-at.result 0 ≡ get_or d.group number 0 = ap (λ n. get_or c.as_slice.result.now n 0) c.from-at.ensures ∙ ap (λ xs. get_or xs number 0) c.as_slice.ensures in
    let attends = subst (λ n. Attends n k0 k1) child_is (c.in-Ok.ensures.attends told) in
    let shows = subst (λ s. WasAnswered (get_or d.group number 0) k0 k1 (session.Shows k0.says c.args.answering.now s c.args.progress.now.filer c.show_round.new.filer (Ok c.in-Ok.answer))) showing_is
    (subst (λ n. WasAnswered n k0 k1 (session.Shows k0.says c.args.answering.now c.in_ok-showing.showing c.args.progress.now.filer c.show_round.new.filer (Ok c.in-Ok.answer))) child_is (c.in-Ok.ensures.shown told)) in
    let p = c.args.progress.now in
    let made = c.show_round.new.filer.made in
    let kind_is : c.kind_of-kind.result ≡ kind_among d.kinds d.hellos number = c.kind_of-kind.ensures ∙ ap (kind_among d.kinds d.hellos) c.from-at.ensures in
    let count_is : length c.made-made.result.now ≡ length p.filer.made = ap length c.made-made.ensures in
    let remembered : c.remember.new.processed ≡ p.processed ++ processed_by (kind_among d.kinds d.hellos number) c.args.answering.now c.args.env number p.processed (drop (length p.filer.made) made) c.in-Ok.answer ∷ [] =
    c.in_ok-remember.ensures
    ∙ ap (λ kind. p.processed ++ processed_by kind c.args.table.now c.in_ok-showing.showing.env number p.processed (drop (length c.made-made.result.now) made) c.in-Ok.answer ∷ []) kind_is
    ∙ ap (λ table. p.processed ++ processed_by (kind_among d.kinds d.hellos number) table c.in_ok-showing.showing.env number p.processed (drop (length c.made-made.result.now) made) c.in-Ok.answer ∷ []) c.requires.table
    ∙ ap (λ (s : Showing). p.processed ++ processed_by (kind_among d.kinds d.hellos number) c.args.answering.now s.env number p.processed (drop (length c.made-made.result.now) made) c.in-Ok.answer ∷ []) showing_is
    ∙ ap (λ n. p.processed ++ processed_by (kind_among d.kinds d.hellos number) c.args.answering.now c.args.env number p.processed (drop n made) c.in-Ok.answer ∷ []) count_is in
    asks_ok d k0 k1 number lt c.args.answering.now c.args.env c.args.progress.now c.show_round.new.filer attends processors stands
    (record { contributed = c.set_contributed.new.contributed; filer = c.show_round.new.filer; messages = c.place.new.messages; processed = c.remember.new.processed; past = c.args.progress.now.past }) c.in-Ok.answer shows (search rules) refl
    (search rules) remembered refl

pub returns-in-Err-clause-due : goal.returns-in-Err-clause-due
returns-in-Err-clause-due g c =
    let limit_is : c.in_ok-showing.showing.limit ≡ most_questions c.args.env = ap (λ (s : Showing). s.limit) c.in_ok-showing.ensures in
    due_session c.in_ok-name.name c.in_ok-showing.showing c.args.env limit_is c.in-Err.fault c.in-Err.ensures.due (stop_of c.refusal_by.result) c.refusal_by.ensures.is

pub returns-in-Err-clause-named : goal.returns-in-Err-clause-named
returns-in-Err-clause-named g c =
    let d = c.args.run.now in
    let number = c.args.number in
    let s = stop_of c.refusal_by.result in
    let inside : c.from-at.result < length c.as_slice-2.result.now = omega (arith, c.from-at.ensures, ap length c.as_slice-2.ensures, c.requires.number, c.requires.listed.names) in
    let name_is : c.index-as_slice-at.result ≡ get_or d.names number [] = get_or_read c.as_slice-2.result.now c.from-at.result c.index-as_slice-at.result inside c.index-as_slice-at.is []
    ∙ ap (λ n. get_or c.as_slice-2.result.now n []) c.from-at.ensures ∙ ap (λ xs. get_or xs number []) c.as_slice-2.ensures in
    let has : Contains d.names (get_or d.names number []) = Contains-get_or d.names number [] (omega (arith, c.requires.number, c.requires.listed.names)) in
    let named : Names (get_or d.names number []) s = subst (λ n. Names n s) (c.in_ok-name.ensures ∙ name_is) c.refusal_by.ensures.named in
    some_among d.names (get_or d.names number []) (named_by s) has named

pub remember-requires : goal.remember-requires
remember-requires g c = c.requires.roots ∙ ap (λ (s : Showing). roots_with c.args.table.now s.env.roots) (sym c.in_ok-showing.ensures)

pub kind_of-kind-requires-clause-kinds : goal.kind_of-kind-requires-clause-kinds
kind_of-kind-requires-clause-kinds g c = omega (arith, c.from-at.ensures, c.requires.number, c.requires.listed.kinds)

pub kind_of-kind-requires-clause-hellos : goal.kind_of-kind-requires-clause-hellos
kind_of-kind-requires-clause-hellos g c = omega (arith, c.from-at.ensures, c.requires.number, c.requires.listed.hellos)
