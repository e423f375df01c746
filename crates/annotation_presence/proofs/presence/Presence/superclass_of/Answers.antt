use Rattle.std.proofs.Common.{sym, subst}
use Rattle.element_table.specs.TypeTable.{TypeTable}
use Rattle.name_resolve.specs.Shown.{find_of}
use Rattle.annotation_presence.specs.Remembered.{StandsAt}
use Rattle.annotation_presence.proofs.PresenceLemmas.{stands}
use Rattle.annotation_presence.proofs.presence.Presence.superclass_of.Goals as goal

pub superclass_at-requires : goal.superclass_at-requires
superclass_at-requires c =
    let found = c.in_ok-found-in-Some in
    let there = stands c.self.inside.table.now c.args.at.now c.in-Some.unit.now (find_of found.found) (sym c.in-Some.ensures.value) found.ensures.value found.ensures.placed in
    record { stands = subst (λ (table : TypeTable). StandsAt table c.args.at.now (find_of found.found)) c.self.view_is there }
