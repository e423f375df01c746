use Rattle.std.proofs.Common.{◌≡◌, true, false, IfOk, sym, ap, ◌∙◌, subst}
use Rattle.local_procs.specs.Places.{answer_of}
use Rattle.local_procs.specs.Says.{answer_by}
use Rattle.local_procs.proofs.RoundsBegun.{roots_test, waits_with, not_offered, roots_small, roots_large}
use Rattle.local_procs.proofs.child.goes.Goals as goal

pub returns-then-not-there : goal.returns-then-not-there
returns-then-not-there c = c.done.ensures ∙ ap (answer_by c.args.local) (sym (not_offered c.args.local c.args.there c.if-not-there.true))

pub returns-then-is_too_large : goal.returns-then-is_too_large
returns-then-is_too_large c =
    subst (λ plan. IfOk c.after_roots.result (λ said. answer_of c.args.local said ≡ answer_by c.args.local plan))
    (sym (roots_large c.args.local c.args.there c.if-not-there.false
    (roots_test _ _ true c.frame_of_roots-frame.ensures c.is_too_large.ensures c.if-is_too_large.true)))
    c.after_roots.ensures

pub returns : goal.returns
returns c =
    ap (waits_with c.args.local) c.frame_of_roots-frame.ensures
    ∙ ap (answer_by c.args.local) (sym (roots_small c.args.local c.args.there c.if-not-there.false
    (roots_test _ _ false c.frame_of_roots-frame.ensures c.is_too_large.ensures c.if-is_too_large.false)))
