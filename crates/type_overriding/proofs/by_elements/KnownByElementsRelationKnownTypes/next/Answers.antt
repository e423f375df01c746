use Rattle.std.proofs.Common.{List, ap, ◌∙◌}
use Rattle.type_mirror.specs.declared.mirror.Mirror.{Mirror}
use Rattle.type_overriding.specs.ByElements.{are_of_one, next_by_elements}
use Rattle.type_overriding.proofs.AskedByElements.{elements-decide, elements-differ-over, keeps-itself, keeps-over}
use Rattle.type_overriding.proofs.by_elements.KnownByElementsRelationKnownTypes.next.Goals as goal

pub returns-then-are_of_one-clause-next : goal.returns-then-are_of_one-clause-next
returns-then-are_of_one-clause-next c =
    elements-decide c.args.known.now.table c.args.known.now.types c.args.pair c.are_of_one.result
    (c.are_of_one.ensures ∙ ap (λ (ts : List Mirror). are_of_one ts c.args.pair) c.types.ensures) c.if-are_of_one.true

pub returns-then-are_of_one-clause-grows : goal.returns-then-are_of_one-clause-grows
returns-then-are_of_one-clause-grows c = keeps-itself (next_by_elements c.args.known.now.table) c.args.known.now.types

pub returns-clause-next : goal.returns-clause-next
returns-clause-next c =
    elements-differ-over c.args.known.now.table c.next.new.known.table c.args.known.now.types c.next.new.known.types c.args.pair c.are_of_one.result c.in_ok-next.next
    (c.are_of_one.ensures ∙ ap (λ (ts : List Mirror). are_of_one ts c.args.pair) c.types.ensures) c.if-are_of_one.false c.in_ok-next.ensures.next

pub returns-clause-grows : goal.returns-clause-grows
returns-clause-grows c =
    keeps-over c.args.known.now.table c.next.new.known.table c.args.known.now.types c.next.new.known.types c.in_ok-next.ensures.grows

pub returns-in_err-next-clause-grows : goal.returns-in_err-next-clause-grows
returns-in_err-next-clause-grows c =
    keeps-over c.args.known.now.table c.next.new.known.table c.args.known.now.types c.next.new.known.types c.in_err-next.ensures.grows
