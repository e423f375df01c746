use Rattle.std.proofs.Common.{◌≡◌, ◌∷◌, [], Ok, map, string_bytes, ap, sym, ◌∙◌, subst, rules}
use Rattle.std.specs.BTreeMap.{IsOrdered}
use Rattle.std.specs.String.{string_cmp}
use Rattle.std.specs.FinMap as fin
use Rattle.std.proofs.lemmas.Result.{err_from_is_err_and}
use Rattle.project_units.specs.Held.{shown_lent}
use Rattle.apt_base.specs.Names.{names_in}
use Rattle.project_units.specs.Creations.{sources_among}
use Rattle.project_units.specs.Units.{enter_created, gather_all, ascending, enter_all}
use Rattle.project_units.specs.Faults.{stop_of}
use Rattle.project_units.specs.Entering.{gathered, RefusesAs}
use Rattle.project_units.proofs.EnteringLemmas.{gathers_not}
use Rattle.project_units.proofs.LentFiles.{entries-files_lent}
use Rattle.project_units.proofs.entering.enter_all.Goals as goal

pub loop-path-init : goal.loop-path-init
loop-path-init c =
    let items = c.into_map-path-items.result in
    let ordered : IsOrdered string_cmp items = c.into_iter-path-iterator.ensures.into_iter_gives.5 in
    let all : c.into_iter-path-iterator.result ≡ items.entries = search rules in
    ap (λ roots. gather_all (gathered c.args.table.now roots) (map shown_lent c.into_iter-path-iterator.result)) c.new-roots.ensures
    ∙ ap (gather_all (gathered c.args.table.now fin.empty)) (ap (map shown_lent) all ∙ sym (entries-files_lent items ordered) ∙ ap fin.entries (c.into_map-path-items.ensures ∙ c.in_ok-sources.ensures))

pub returns-clause-enters : goal.returns-clause-enters
returns-clause-enters c =
    let none : c.loop-path.path-iterator ≡ [] = c.in-None.ensures.steps.0 in
    let names_are : c.in_ok-list.field-0 ≡ names_in c.loop-path.roots = search rules in
    sym (ap ascending c.loop-path.invariant)
    ∙ ap (λ es. ascending (gather_all (gathered c.loop-path.table c.loop-path.roots) (map shown_lent es))) none
    ∙ ap (λ ns. Ok (record { table = c.loop-path.table; names = ns })) (sym names_are)

pub returns-in_err-enter_created-clause-enters : goal.returns-in_err-enter_created-clause-enters
returns-in_err-enter_created-clause-enters c =
    let rest : c.loop-path.path-iterator ≡ (c.in-Some.path, c.in-Some.content) ∷ c.next.new.self = c.in-Some.ensures.steps in
    let before = gathered c.loop-path.table c.loop-path.roots in
    let p = err_from_is_err_and c.from_residual-in_err-enter_created.result c.from_residual-in_err-enter_created.ensures.1 in
    let refuses : RefusesAs (enter_created before (string_bytes c.in-Some.path, c.in-Some.content.now)) (stop_of c.in_err-enter_created.field-0.0) = search rules in
    let same : ascending (gather_all before (shown_lent (c.in-Some.path, c.in-Some.content) ∷ map shown_lent c.next.new.self)) ≡ enter_all c.args.table.now (fin.entries (sources_among c.args.made.now)) =
    ap (λ es. ascending (gather_all before (map shown_lent es))) (sym rest) ∙ ap ascending c.loop-path.invariant in
    rw (p.1, p.2) (subst (λ o. RefusesAs o (stop_of c.in_err-enter_created.field-0.0)) same (gathers_not before (shown_lent (c.in-Some.path, c.in-Some.content)) (map shown_lent c.next.new.self) (stop_of c.in_err-enter_created.field-0.0) refuses))
