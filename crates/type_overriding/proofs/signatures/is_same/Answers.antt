use Rattle.std.proofs.Common.{sym, ◌∙◌}
use Rattle.type_numbers.specs.Nodes.{layer_of}
use Rattle.type_subtypes.proofs.SameNumbers.{same-wildcard, same-numbers}
use Rattle.type_overriding.proofs.signatures.is_same.Goals as goal

pub returns-then-is_wildcard : goal.returns-then-is_wildcard
returns-then-is_wildcard c =
    same-wildcard c.args.types.now c.args.one c.args.other (layer_of c.node.result.now) c.node.ensures.exact (sym c.is_wildcard.ensures ∙ c.if-is_wildcard.true)

pub returns : goal.returns
returns c =
    same-numbers c.args.types.now c.args.one c.args.other (layer_of c.node.result.now) c.is_equal.result c.node.ensures.exact (sym c.is_wildcard.ensures ∙ c.if-is_wildcard.false)
    c.is_equal.ensures
