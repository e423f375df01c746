use Rattle.name_resolve.specs.Shown.{find_of}
use Rattle.decl_elements.specs.Shown.{node_of}
use Rattle.expression_names.specs.FieldsByName.{named_as}
use Rattle.expression_names.proofs.NamedFields.{child-passed, row-added}
use Rattle.expression_names.proofs.field_rows.FieldRows.add_child.Goals as goal

pub returns-in-None-clause-value : goal.returns-in-None-clause-value
returns-in-None-clause-value c = child-passed (find_of c.args.self.now.of) (named_as c.args.self.now) c.args.number (node_of c.args.child) c.in-None.ensures

pub returns-in_ok-add-in-Some-clause-value : goal.returns-in_ok-add-in-Some-clause-value
returns-in_ok-add-in-Some-clause-value c =
    row-added c.args.self.now c.add.new.self c.add.ensures.of c.args.number (node_of c.args.child) c.in-Some.name.now c.in_ok-add-in-Some.ensures.value c.in-Some.ensures
