use Rattle.decl_elements.specs.Shown.{node_of}
use Rattle.name_resolve.specs.Shown.{find_of}
use Rattle.expression_names.proofs.NamedFields.{rows-none, rows-some}
use Rattle.expression_names.proofs.field_rows.rows_of.Goals as goal

pub returns-in_ok-rows-in-None-clause-value : goal.returns-in_ok-rows-in-None-clause-value
returns-in_ok-rows-in-None-clause-value c =
    rows-none c.in_ok-rows-in-None.rows (find_of c.args.of.now) c.in_ok-rows-in-None.ensures.of _ c.as_slice.ensures.value c.in_ok-rows-in-None.ensures.value c.in-None.ensures.value

pub returns-in_ok-rows-in-Some-clause-value : goal.returns-in_ok-rows-in-Some-clause-value
returns-in_ok-rows-in-Some-clause-value c =
    rows-some c.in_ok-rows-in-Some.rows (find_of c.args.of.now) c.in_ok-rows-in-Some.ensures.of _ c.as_slice.ensures.value (node_of c.in-Some.place) c.in-Some.ensures.value
    c.in_ok-rows-in-Some.ensures.value
