use Rattle.type_overriding.proofs.AskedByElements.{nodes-of_one}
use Rattle.type_overriding.proofs.by_elements.are_of_one.Goals as goal

pub returns : goal.returns
returns c =
    nodes-of_one c.args.types.now c.args.pair c.node.result.now c.node-2.result.now c.are_of_one_element.result c.node.ensures.exact c.node-2.ensures.exact
    c.are_of_one_element.ensures
