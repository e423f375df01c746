use Rattle.std.proofs.Common.{ap, ◌∙◌}
use Rattle.type_mirror.specs.declared.mirror.PrimitiveKind.TheVariants as kind
use Rattle.type_layers.specs.Layers.{array_of}
use Rattle.type_relations.specs.Direct.{direct}
use Rattle.type_steps.proofs.LayersOfNumbers.{may-same}
use Rattle.type_steps.proofs.SupertypesByLayers.{all-arrays}
use Rattle.type_steps.proofs.supertypes.of_all_arrays.Goals as goal

pub returns-clause-stands : goal.returns-clause-stands
returns-clause-stands c =
    may-same c.of_mirror.result c.of_mirror.new.types _ _
    (ap (direct c.args.table.now) (c.in_ok-array.ensures ∙ ap array_of c.plain-item.ensures) ∙ all-arrays c.args.table.now kind.Boolean) c.of_mirror.ensures.stands
