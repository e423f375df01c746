use Rattle.std.proofs.Common.{◌∙◌}
use Rattle.decl_elements.specs.Shown.{node_of}
use Rattle.name_resolve.proofs.TypesAt.{type_none, type_some}
use Rattle.name_resolve.proofs.headers.type_at.Goals as goal

pub returns-in-None : goal.returns-in-None
returns-in-None c = type_none c.args.of.now.unit.now c.args.of.now.path.items _ c.as_slice.ensures.value c.in-None.ensures.value

pub returns-in-Some : goal.returns-in-Some
returns-in-Some c =
    c.declaration.ensures ∙ type_some c.args.of.now.unit.now c.args.of.now.path.items _ c.as_slice.ensures.value (node_of c.in-Some.place) c.in-Some.ensures.value
