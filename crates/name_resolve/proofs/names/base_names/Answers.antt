use Rattle.std.proofs.Common.{ap, ◌∙◌, map}
use Rattle.name_resolve.specs.Supertypes.{part_name}
use Rattle.name_resolve.specs.Parts.{lent}
use Rattle.name_resolve.proofs.NameParts.{names-Named, names-Primitive, names-Wildcard}
use Rattle.name_resolve.proofs.names.base_names.Goals as goal

pub returns-in_ok-names-in-Named : goal.returns-in_ok-names-in-Named
returns-in_ok-names-in-Named c = c.in_ok-names-in-Named.ensures ∙ ap (map part_name) c.as_slice.ensures ∙ names-Named c.args.base.now c.in-Named.parts c.in-Named.is

pub returns-in-Primitive : goal.returns-in-Primitive
returns-in-Primitive c = ap lent c.new.ensures.items ∙ names-Primitive c.args.base.now c.in-Primitive.field-0 c.in-Primitive.is

pub returns-in-Wildcard : goal.returns-in-Wildcard
returns-in-Wildcard c = ap lent c.new-in-Wildcard.ensures.items ∙ names-Wildcard c.args.base.now c.in-Wildcard.is
