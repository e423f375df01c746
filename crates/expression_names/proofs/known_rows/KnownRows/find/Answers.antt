use Rattle.std.proofs.Common.{◌∙◌}
use Rattle.name_resolve.specs.Shown.{find_of}
use Rattle.expression_names.proofs.NamedFields.{known-fields}
use Rattle.expression_names.proofs.known_rows.KnownRows.find.Goals as goal

pub returns-in_ok-finds-in-Some : goal.returns-in_ok-finds-in-Some
returns-in_ok-finds-in-Some c = λ table known placed.
    c.in_ok-finds-in-Some.ensures
    ∙ known-fields table c.in-Some.rows.now (find_of c.args.of.now) c.args.name.now ((rw c.in-Some.is at c.in_ok-known.ensures.value) table known) placed (rw c.in-Some.is at c.in_ok-known.ensures.of)
