use Rattle.std.proofs.Common.{◌≡◌, ◌<◌, List, None, length, sym, subst}
use Rattle.decl_grammar.specs.declared.symbol.Symbol.{Symbol}
use Rattle.decl_grammar.specs.Reading.{done}
use Rattle.decl_grammar.specs.Rule.{reads}
use Rattle.decl_children.specs.ParamReads.{step_form}
use Rattle.decl_children.proofs.CommaRows.{unread, was-read}
use Rattle.decl_children.proofs.ParamEnds.{end-none, end-some, end-behind}
use Rattle.decl_children.proofs.WalkAnswers.{end-stuck, step-falls}
use Rattle.decl_children.proofs.params.end_of.Goals as goal

pub row-init : goal.row-init
row-init c = rw c.all-rest.ensures (λ e rest r. r, λ e rest r. r)

-- no step is read
pub returns-in_default : goal.returns-in_default
returns-in_default c = λ e rest r.
    end-stuck c.args.room c.args.first c.row.rest.now (unread (λ x. (x.0, x.1.now)) c.step_of.result _ c.step_of.ensures (rw c.in_default.is at c.in_ok-found.ensures)) e rest (c.row.invariant.0 e rest r)

-- the end
pub returns-in-Some-end : goal.returns-in-Some-end
returns-in-Some-end c =
    c.row.invariant.1 _ c.in-Some.found.1.now
    (end-some c.args.room c.args.first c.row.rest.now _ c.in-Some.found.1.now (rw c.in-Some-end.is at (was-read (λ x. (x.0, x.1.now)) c.step_of.result _ _ c.step_of.ensures (rw c.in-Some.is at c.in_ok-found.ensures))))

pub row-preserved : goal.row-preserved
row-preserved c =
    let step : reads c.args.room (step_form c.args.first) c.row.rest.now ≡ done None c.in-Some.found.1.now =
    rw c.in_default-end.is at (was-read (λ x. (x.0, x.1.now)) c.step_of.result _ _ c.step_of.ensures (rw c.in-Some.is at c.in_ok-found.ensures)) in
    rw c.all-rest-in-row.ensures (
      λ e rest r. end-behind c.args.room c.args.first c.row.rest.now c.in-Some.found.1.now e rest step (c.row.invariant.0 e rest r),
      λ e rest r. c.row.invariant.1 e rest (end-none c.args.room c.args.first c.row.rest.now c.in-Some.found.1.now e rest step r),
    )

pub row-smaller : goal.row-smaller
row-smaller c =
    subst (λ (ts : List Symbol). length ts < length c.row.rest.now) (sym c.all-rest-in-row.ensures)
    (step-falls c.args.room c.args.first c.row.rest.now _ c.in-Some.found.1.now (was-read (λ x. (x.0, x.1.now)) c.step_of.result _ _ c.step_of.ensures (rw c.in-Some.is at c.in_ok-found.ensures)))
