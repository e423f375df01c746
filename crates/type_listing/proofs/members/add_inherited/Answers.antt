use Rattle.std.proofs.Common.{sym, ap, ◌∙◌}
use Rattle.type_listing.specs.Listings.{Listed}
use Rattle.type_listing.specs.Members.{is_inherited}
use Rattle.element_table.specs.TypeTable.{TypeTable}
use Rattle.type_overriding.specs.Methods.{Container}
use Rattle.type_listing.proofs.DisplacingMethods.{at_type}
use Rattle.type_listing.proofs.AddedMembers.{member_barred, member_there, member_displaced, member_open, member_added}
use Rattle.type_listing.proofs.members.add_inherited.Goals as goal

pub returns-then-not-is_inherited-clause-due : goal.returns-then-not-is_inherited-clause-due
returns-then-not-is_inherited-clause-due c =
    member_barred c.args.list.now.table c.args.within.now c.args.list.now.list c.args.at.now
    (ap (λ (x : TypeTable). is_inherited x c.args.within.now c.args.at.now) (sym c.table.ensures) ∙ sym c.is_inherited.ensures ∙ c.if-not-is_inherited.true)

pub returns-then-branch-clause-due : goal.returns-then-branch-clause-due
returns-then-branch-clause-due c =
    member_there c.args.list.now.table c.args.within.now c.args.list.now.list c.args.at.now (sym c.in_ok-is_among.ensures ∙ c.if-branch.true)

pub is_displaced-requires : goal.is_displaced-requires
is_displaced-requires c = ap (λ (m : Container). m.table) c.requires

pub returns-in-Yes-clause-due : goal.returns-in-Yes-clause-due
returns-in-Yes-clause-due c =
    member_displaced c.args.list.now.table c.args.within.now c.args.list.now.list c.args.at.now c.in_ok-is_displaced.field-0
    (ap (λ (x : TypeTable). is_inherited x c.args.within.now c.args.at.now) (sym c.table.ensures) ∙ sym c.is_inherited.ensures ∙ c.if-not-is_inherited.false)
    (sym c.in_ok-is_among.ensures ∙ c.if-branch.false) (at_type c.args.methods.now c.args.list.now.table c.args.within.now c.args.list.now.list c.args.at.now c.in_ok-is_displaced.field-0 c.requires
    c.in_ok-is_displaced.ensures.answer) c.in-Yes.is

pub returns-in-Open-clause-due : goal.returns-in-Open-clause-due
returns-in-Open-clause-due c =
    member_open c.args.list.now.table c.args.within.now c.args.list.now.list c.args.at.now c.in_ok-is_displaced.field-0
    (ap (λ (x : TypeTable). is_inherited x c.args.within.now c.args.at.now) (sym c.table.ensures) ∙ sym c.is_inherited.ensures ∙ c.if-not-is_inherited.false)
    (sym c.in_ok-is_among.ensures ∙ c.if-branch.false) (at_type c.args.methods.now c.args.list.now.table c.args.within.now c.args.list.now.list c.args.at.now c.in_ok-is_displaced.field-0 c.requires
    c.in_ok-is_displaced.ensures.answer) c.in-Open.is

pub returns-in_ok-push-in-No-clause-due : goal.returns-in_ok-push-in-No-clause-due
returns-in_ok-push-in-No-clause-due c =
    member_added c.args.list.now.table c.args.within.now c.args.list.now.list c.args.at.now c.in_ok-is_displaced.field-0 c.push.new.self.list c.in_ok-copy-in-No.copy
    (ap (λ (x : TypeTable). is_inherited x c.args.within.now c.args.at.now) (sym c.table.ensures) ∙ sym c.is_inherited.ensures ∙ c.if-not-is_inherited.false)
    (sym c.in_ok-is_among.ensures ∙ c.if-branch.false) (at_type c.args.methods.now c.args.list.now.table c.args.within.now c.args.list.now.list c.args.at.now c.in_ok-is_displaced.field-0 c.requires
    c.in_ok-is_displaced.ensures.answer) c.in-No.is
    (ap (λ (l : Listed). l.list) c.in_ok-push-in-No.ensures.ok) c.in_ok-copy-in-No.ensures
