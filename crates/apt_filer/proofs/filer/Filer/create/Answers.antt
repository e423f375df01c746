use Rattle.std.proofs.Common.{sym, ap, ◌∙◌}
use Rattle.std.specs.FinMap.{contains_key}
use Rattle.apt_filer.proofs.FilingLemmas.{is_new}
use Rattle.apt_filer.proofs.filer.Filer.create.Goals as goal

pub keep-requires-clause-absent : goal.keep-requires-clause-absent
keep-requires-clause-absent c =
    let taken = c.args.self.now.taken in
    ap (contains_key taken.paths) c.in_ok-path.ensures ∙ (is_new taken c.args.creation (sym c.in-Accepted.ensures)).absent

pub keep-requires-clause-room : goal.keep-requires-clause-room
keep-requires-clause-room c = (is_new c.args.self.now.taken c.args.creation (sym c.in-Accepted.ensures)).room
