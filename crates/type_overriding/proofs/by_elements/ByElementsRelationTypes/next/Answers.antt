use Rattle.type_subtypes.specs.Subtypes.{next_of}
use Rattle.type_overriding.specs.ByElements.{next_by_elements}
use Rattle.type_overriding.proofs.AskedByElements.{nodes-of_one, elements-decide, elements-differ, keeps-alike, keeps-itself}
use Rattle.type_overriding.proofs.by_elements.ByElementsRelationTypes.next.Goals as goal

pub returns-then-are_of_one_element-clause-next : goal.returns-then-are_of_one_element-clause-next
returns-then-are_of_one_element-clause-next c =
    elements-decide c.args.self.now c.args.types.now c.args.pair c.are_of_one_element.result
    (nodes-of_one c.args.types.now c.args.pair c.node.result.now c.node-2.result.now c.are_of_one_element.result c.node.ensures.exact c.node-2.ensures.exact c.are_of_one_element.ensures) c.if-are_of_one_element.true

pub returns-then-are_of_one_element-clause-grows : goal.returns-then-are_of_one_element-clause-grows
returns-then-are_of_one_element-clause-grows c = keeps-itself (next_by_elements c.args.self.now) c.args.types.now

pub returns-clause-next : goal.returns-clause-next
returns-clause-next c =
    elements-differ c.args.self.now c.self.inside.table.now c.args.types.now c.next.new.types c.args.pair c.are_of_one_element.result c.in_ok-next.next c.self.view_is
    (nodes-of_one c.args.types.now c.args.pair c.node.result.now c.node-2.result.now c.are_of_one_element.result c.node.ensures.exact c.node-2.ensures.exact c.are_of_one_element.ensures) c.if-are_of_one_element.false c.in_ok-next.ensures.next

pub returns-clause-grows : goal.returns-clause-grows
returns-clause-grows c =
    keeps-alike (next_of c.self.inside.table.now) (next_by_elements c.args.self.now) c.args.types.now c.next.new.types c.in_ok-next.ensures.grows
