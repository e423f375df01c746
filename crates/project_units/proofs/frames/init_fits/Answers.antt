use Rattle.std.proofs.Common.{◌≡◌, Bool, IfOk, subst}
use Rattle.project_units.proofs.FirstFrames.{fits_where_sent}
use Rattle.project_units.specs.Plans.{plan_of}
use Rattle.project_units.proofs.frames.init_fits.Goals as goal

pub returns : goal.returns
returns c =
    let P : Bool → Type 0 = λ x. IfOk c.is_sent-sent.result (λ fits. fits ≡ x) in
    subst P (fits_where_sent (plan_of c.args.key.now) c.args.name.now c.in_ok-frame.frame c.in_ok-frame.ensures) c.is_sent-sent.ensures
