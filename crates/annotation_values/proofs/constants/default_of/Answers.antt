use Rattle.std.proofs.Common.{sym}
use Rattle.name_resolve.specs.Shown.{find_of}
use Rattle.annotation_values.specs.Remembered.{StandsIn}
use Rattle.annotation_values.proofs.ElementLemmas.{default-none}
use Rattle.annotation_values.proofs.constants.default_of.Goals as goal

pub returns-in-None-place_at-clause-value : goal.returns-in-None-place_at-clause-value
returns-in-None-place_at-clause-value c =
    let table = c.args.values.now in
    let at = c.args.at.now in
    let f = find_of c.in-Some.found in
    let stands : StandsIn table at f = rw c.in-Some.is at c.in_ok-located.ensures.stands in
    sym (default-none table at f _ stands c.as_slice.ensures.value c.in-None-place_at.ensures.value)
