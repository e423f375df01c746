use Rattle.std.proofs.Common.{◌∙◌}
use Rattle.decl_elements.specs.Shown.{node_of}
use Rattle.name_resolve.proofs.Enclosing.{there-is}
use Rattle.annotation_presence.proofs.meanings.is_there.Goals as goal

pub returns : goal.returns
returns c = c.is_some.ensures ∙ there-is node_of c.place_at.result c.args.at.now.unit.now c.args.at.now.path.items _ c.as_slice.ensures.value c.place_at.ensures.value
