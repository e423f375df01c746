use Rattle.std.proofs.Common.{refl, ap, is_some, ◌∙◌}
use Rattle.decl_elements.specs.Shown.{node_of}
use Rattle.name_resolve.proofs.TypesAt.{type_none, type_some}
use Rattle.type_resolve.proofs.calls.is_type_in.Goals as goal

pub returns-in-None : goal.returns-in-None
returns-in-None c = ap is_some (type_none c.args.unit.now c.args.path.now c.args.path.now refl c.in-None.ensures.value)

pub returns-in-Some : goal.returns-in-Some
returns-in-Some c =
    c.is_declaration.ensures ∙ ap is_some (type_some c.args.unit.now c.args.path.now c.args.path.now refl (node_of c.in-Some.place) c.in-Some.ensures.value)
