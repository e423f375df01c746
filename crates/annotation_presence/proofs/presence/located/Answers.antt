use Rattle.std.proofs.Common.{sym}
use Rattle.name_resolve.specs.Shown.{find_of}
use Rattle.annotation_presence.proofs.PresenceLemmas.{stands}
use Rattle.annotation_presence.proofs.presence.located.Goals as goal

pub returns-in_ok-found-in-Some-clause-stands : goal.returns-in_ok-found-in-Some-clause-stands
returns-in_ok-found-in-Some-clause-stands c =
    let found = c.in_ok-found-in-Some in
    stands c.args.table.now c.args.at.now c.in-Some.unit.now (find_of found.found) (sym c.in-Some.ensures.value) found.ensures.value found.ensures.placed
