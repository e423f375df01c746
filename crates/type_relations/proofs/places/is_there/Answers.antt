use Rattle.std.proofs.Common.{ap, is_some, ◌∙◌}
use Rattle.decl_elements.specs.Shown.{node_of}
use Rattle.type_relations.proofs.PlacesOfElements.{is_some-map}
use Rattle.type_relations.proofs.places.is_there.Goals as goal

pub returns : goal.returns
returns c = c.is_some.ensures ∙ is_some-map node_of c.place_of.result ∙ ap is_some c.place_of.ensures.value
