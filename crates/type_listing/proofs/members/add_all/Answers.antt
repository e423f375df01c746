use Rattle.std.proofs.Common.{sym, ap, ◌∙◌, arith}
use Rattle.element_table.specs.TypeTable.{TypeTable}
use Rattle.type_overriding.specs.Methods.{container_of}
use Rattle.type_listing.specs.Members.{with_members}
use Rattle.type_listing.proofs.AddedMembers.{adding_open, adding_next, adding_all}
use Rattle.type_listing.proofs.members.add_all.Goals as goal

pub add_inherited-requires : goal.add_inherited-requires
add_inherited-requires c =
    c.loop-each.invariant.2 ∙ c.requires ∙ ap (λ (x : TypeTable). container_of x c.args.within.now) (sym c.loop-each.invariant.0)

pub returns-then-not-branch-clause-due : goal.returns-then-not-branch-clause-due
returns-then-not-branch-clause-due c =
    adding_open c.args.list.now.table c.args.within.now c.args.others.now c.loop-each.each-index c.loop-each.list.list
    (with_members c.args.list.now.table c.args.within.now c.args.list.now.list c.args.others.now) c.loop-each.invariant.1
    c.loop-each.list.table c.each-item.result c.in_ok-add_inherited.field-0 c.add_inherited.new.list.list
    c.loop-each.invariant.0 c.loop-each-test.true (sym c.each-item.is) c.if-not-branch.true c.in_ok-add_inherited.ensures.due

pub loop-each-preserved : goal.loop-each-preserved
loop-each-preserved c = (
  c.in_ok-add_inherited.ensures.table ∙ c.loop-each.invariant.0,
  adding_next c.args.list.now.table c.args.within.now c.args.others.now c.loop-each.each-index c.loop-each.list.list
      (with_members c.args.list.now.table c.args.within.now c.args.list.now.list c.args.others.now) c.loop-each.invariant.1
      c.loop-each.list.table c.each-item.result c.in_ok-add_inherited.field-0 c.add_inherited.new.list.list
      c.loop-each.invariant.0 c.loop-each-test.true (sym c.each-item.is) c.if-not-branch.false c.in_ok-add_inherited.ensures.due,
  c.in_ok-add_inherited.ensures.kept ∙ c.loop-each.invariant.2,
)

pub returns-clause-due : goal.returns-clause-due
returns-clause-due c =
    adding_all c.args.list.now.table c.args.within.now c.args.others.now c.loop-each.each-index c.loop-each.list.list
    (with_members c.args.list.now.table c.args.within.now c.args.list.now.list c.args.others.now) c.loop-each.invariant.1 (omega arith)
