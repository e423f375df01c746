use Rattle.std.proofs.Common.{List, false, sym, subst, ◌∙◌, arith}
use Rattle.decl_tree.specs.declared.declaration.TypeKind.TheVariants as kind
use Rattle.decl_grammar.specs.declared.symbol.Symbol.{Symbol}
use Rattle.decl_grammar.specs.Types.{type_modifiers}
use Rattle.decl_grammar.proofs.Loop.{falls}
use Rattle.decl_children.specs.Members.{heading_of}
use Rattle.decl_children.specs.TypeWalks.{Walks, MembersOver, MembersEnd, enum_front}
use Rattle.decl_children.proofs.CommaRows.{unread, was-read}
use Rattle.decl_children.proofs.ParamOnes.{reads-less}
use Rattle.decl_children.proofs.KindWalks.{heading-never, params-full}
use Rattle.decl_children.proofs.EnumWalks.{constants-full}
use Rattle.decl_children.proofs.WalkSteps.{one-full, same-full, same-ended, same-over, same-brace}
use Rattle.decl_children.proofs.CycleTells.{none-steps, executable-member, type-member-full, type-member-ended, type-member-behind, row-most, row-goes, row-falls, headed-none, headed-most, headed-walks, enum-none, enum-walks, constants-most, constants-walks, type-stuck}
use Rattle.decl_children.proofs.types.+types.Goals as goal

-- ---- one member

pub walk_member-returns-then-begins_full : goal.walk_member-returns-then-begins_full
walk_member-returns-then-begins_full t c = one-full c.args.kind c.args.before c.args.symbols.now (rw c.if-begins_full.true at c.begins_full.ensures)

-- its modifiers are not read
pub walk_member-returns-in_default : goal.walk_member-returns-in_default
walk_member-returns-in_default t c =
    none-steps c.args.kind c.args.before c.args.room c.args.symbols.now c.nothing.result c.requires.few c.requires.room (rw c.if-begins_full.false at c.begins_full.ensures)
    (unread (λ x. (x.0, x.1.now)) c.type_modifiers_of.result _ c.type_modifiers_of.ensures (rw c.in_default.is at c.in_ok-rest.ensures)) c.nothing.ensures

pub walk_member-executable_full-requires : goal.walk_member-executable_full-requires
walk_member-executable_full-requires t c =
    let there = was-read (λ x. (x.0, x.1.now)) c.type_modifiers_of.result _ _ c.type_modifiers_of.ensures (rw c.in-Some.is at c.in_ok-rest.ensures) in
    record { room = omega (arith, c.requires.room, reads-less type_modifiers c.args.room c.args.symbols.now _ c.in-Some.rest.now there) }

pub walk_member-returns-then-branch : goal.walk_member-returns-then-branch
walk_member-returns-then-branch t c =
    let there = was-read (λ x. (x.0, x.1.now)) c.type_modifiers_of.result _ _ c.type_modifiers_of.ensures (rw c.in-Some.is at c.in_ok-rest.ensures) in
    executable-member c.args.kind c.args.before c.args.room c.args.symbols.now c.in-Some.rest.now _ there (rw c.if-branch.true at c.in_ok-executable_full.ensures)

pub walk_member-walk_type-requires : goal.walk_member-walk_type-requires
walk_member-walk_type-requires t c =
    let there = was-read (λ x. (x.0, x.1.now)) c.type_modifiers_of.result _ _ c.type_modifiers_of.ensures (rw c.in-Some.is at c.in_ok-rest.ensures) in
    let less = reads-less type_modifiers c.args.room c.args.symbols.now _ c.in-Some.rest.now there in
    (omega (arith, c.decreases, less), omega (arith, c.requires.room, less))

pub walk_member-returns-in-Full : goal.walk_member-returns-in-Full
walk_member-returns-in-Full t c =
    let there = was-read (λ x. (x.0, x.1.now)) c.type_modifiers_of.result _ _ c.type_modifiers_of.ensures (rw c.in-Some.is at c.in_ok-rest.ensures) in
    type-member-full c.args.kind c.args.before c.args.room c.args.symbols.now c.in-Some.rest.now _ there (rw c.in-Full.is at c.in_ok-walk_type.ensures)

pub walk_member-returns-in-Ended : goal.walk_member-returns-in-Ended
walk_member-returns-in-Ended t c =
    let there = was-read (λ x. (x.0, x.1.now)) c.type_modifiers_of.result _ _ c.type_modifiers_of.ensures (rw c.in-Some.is at c.in_ok-rest.ensures) in
    type-member-ended c.args.kind c.args.before c.args.room c.args.symbols.now c.in-Some.rest.now _ c.nothing-in-Ended.result c.requires.few c.requires.room (rw c.if-begins_full.false at c.begins_full.ensures) there
    (sym c.starts_type_word.ensures ∙ c.if-not-starts_type_word.false) (rw c.if-branch.false at c.in_ok-executable_full.ensures) (rw c.in-Ended.is at c.in_ok-walk_type.ensures) c.nothing-in-Ended.ensures

pub walk_member-returns-in-Behind : goal.walk_member-returns-in-Behind
walk_member-returns-in-Behind t c =
    let there = was-read (λ x. (x.0, x.1.now)) c.type_modifiers_of.result _ _ c.type_modifiers_of.ensures (rw c.in-Some.is at c.in_ok-rest.ensures) in
    type-member-behind c.args.kind c.args.before c.args.room c.args.symbols.now c.in-Some.rest.now c.in-Behind.rest.now _ c.requires.few c.requires.room (rw c.if-begins_full.false at c.begins_full.ensures) there
    (sym c.starts_type_word.ensures ∙ c.if-not-starts_type_word.false) (rw c.if-branch.false at c.in_ok-executable_full.ensures) (rw c.in-Behind.is at c.in_ok-walk_type.ensures)

-- ---- members up to the `}`

pub walk_members-returns-in-Full : goal.walk_members-returns-in-Full
walk_members-returns-in-Full t c = same-full c.args.kind c.args.before c.args.symbols.now c.row.so_far c.row.constructor c.row.rest.now c.row.invariant (rw c.in-Full.is at c.in_ok-walk_member.ensures)

pub walk_members-returns-in-Ended : goal.walk_members-returns-in-Ended
walk_members-returns-in-Ended t c =
    same-ended c.args.kind c.args.before c.args.symbols.now c.row.so_far c.row.constructor c.row.rest.now c.row.invariant (sym c.is_next.ensures ∙ c.row-test.true) (rw c.in-Ended.is at c.in_ok-walk_member.ensures).0 (rw c.in-Ended.is at c.in_ok-walk_member.ensures).1

pub walk_members-returns-then-passed-so_far : goal.walk_members-returns-then-passed-so_far
walk_members-returns-then-passed-so_far t c =
    row-most c.args.kind c.args.before c.args.symbols.now c.row.so_far c.row.constructor c.row.rest.now c.in-Behind.passed c.row.invariant (rw c.in-Behind.is at c.in_ok-walk_member.ensures) (omega (arith, c.row.invariant.1, c.if-passed-so_far.true))

pub walk_members-row-smaller : goal.walk_members-row-smaller
walk_members-row-smaller t c = row-falls c.args.kind c.row.so_far c.row.rest.now c.all-rest-in-Behind.result.now c.in-Behind.passed (rw c.in-Behind.is at c.in_ok-walk_member.ensures) c.all-rest-in-Behind.ensures

pub walk_members-row-preserved : goal.walk_members-row-preserved
walk_members-row-preserved t c =
    row-goes c.args.kind c.args.before c.args.symbols.now c.row.so_far c.row.constructor c.either-constructor.result c.row.rest.now c.all-rest-in-Behind.result.now c.in-Behind.passed c.row.invariant (rw c.in-Behind.is at c.in_ok-walk_member.ensures)
    (omega (arith, c.row.invariant.1, c.if-passed-so_far.false)) c.either-constructor.ensures c.all-rest-in-Behind.ensures

pub walk_members-returns-then-added-so_far : goal.walk_members-returns-then-added-so_far
walk_members-returns-then-added-so_far t c =
    same-over c.args.kind c.args.before c.args.symbols.now c.row.so_far c.row.constructor c.row.rest.now c.row.invariant (sym c.is_next.ensures ∙ c.row-test.false) (omega (arith, c.row.invariant.1, c.added.ensures, c.if-added-so_far.true))

pub walk_members-returns : goal.walk_members-returns
walk_members-returns t c =
    let w = same-brace c.args.kind c.args.before c.args.symbols.now c.row.so_far c.row.constructor c.row.rest.now c.row.invariant (sym c.is_next.ensures ∙ c.row-test.false) (omega (arith, c.row.invariant.1, c.added.ensures, c.if-added-so_far.false)) in
    (w.0, subst (λ (ts : List Symbol). MembersEnd c.args.kind c.args.symbols.now ts) (sym c.behind.ensures) w.1)

-- ---- a class, an interface, an annotation interface

pub walk_headed-returns-then-branch : goal.walk_headed-returns-then-branch
walk_headed-returns-then-branch t c = params-full c.args.symbols.now (rw c.if-branch.true at c.in_ok-named_params_full.ensures)

pub walk_headed-returns-in_default : goal.walk_headed-returns-in_default
walk_headed-returns-in_default t c =
    headed-none c.args.kind c.args.room c.args.symbols.now c.requires.kind c.requires.begins c.requires.room (rw c.if-branch.false at c.in_ok-named_params_full.ensures)
    (unread (λ x. (x.0, x.1.now)) c.heading_at.result _ c.heading_at.ensures (rw c.in_default.is at c.in_ok-found.ensures))

pub walk_headed-returns-then-before-gt-MAX_CHILDREN : goal.walk_headed-returns-then-before-gt-MAX_CHILDREN
walk_headed-returns-then-before-gt-MAX_CHILDREN t c =
    let there = was-read (λ x. (x.0, x.1.now)) c.heading_at.result _ _ c.heading_at.ensures (rw c.in-Some.is at c.in_ok-found.ensures) in
    headed-most c.args.kind c.args.room c.args.symbols.now c.in-Some.found.1.now c.in-Some.found.0 c.requires.kind there c.if-before-gt-MAX_CHILDREN.true

pub walk_headed-walk_members-requires : goal.walk_headed-walk_members-requires
walk_headed-walk_members-requires t c =
    let there = was-read (λ x. (x.0, x.1.now)) c.heading_at.result _ _ c.heading_at.ensures (rw c.in-Some.is at c.in_ok-found.ensures) in
    let less = falls c.args.room (heading_of c.args.kind) c.args.symbols.now c.in-Some.found.0 c.in-Some.found.1.now (heading-never c.args.kind) there in
    (omega (arith, c.decreases, less), (omega (arith, c.requires.room, less), omega (arith, c.if-before-gt-MAX_CHILDREN.false)))

pub walk_headed-returns : goal.walk_headed-returns
walk_headed-returns t c =
    let there = was-read (λ x. (x.0, x.1.now)) c.heading_at.result _ _ c.heading_at.ensures (rw c.in-Some.is at c.in_ok-found.ensures) in
    headed-walks c.args.kind c.args.room c.args.symbols.now c.in-Some.found.1.now c.in-Some.found.0 c.walk_members.result c.requires.kind c.requires.begins (rw c.if-branch.false at c.in_ok-named_params_full.ensures) there c.walk_members.ensures

-- ---- an enum

pub walk_behind_constants-returns-then-before-gt-MAX_CHILDREN : goal.walk_behind_constants-returns-then-before-gt-MAX_CHILDREN
walk_behind_constants-returns-then-before-gt-MAX_CHILDREN t c = constants-most c.args.before c.args.symbols.now (sym c.is_next.ensures ∙ c.if-is_next.true) c.if-before-gt-MAX_CHILDREN.true

pub walk_behind_constants-returns-then-is_next : goal.walk_behind_constants-returns-then-is_next
walk_behind_constants-returns-then-is_next t c =
    constants-walks c.args.before c.args.symbols.now c.walk_members.result (sym c.is_next.ensures ∙ c.if-is_next.true)
    (subst (λ (ts : List Symbol). Walks (MembersOver kind.Enum c.args.before false ts) (MembersEnd kind.Enum ts) c.walk_members.result) c.behind.ensures c.walk_members.ensures)

pub walk_enum-returns-then-branch : goal.walk_enum-returns-then-branch
walk_enum-returns-then-branch t c = constants-full c.args.symbols.now (rw c.if-branch.true at c.in_ok-enum_constants_full.ensures)

pub walk_enum-returns-in_default : goal.walk_enum-returns-in_default
walk_enum-returns-in_default t c =
    enum-none c.args.room c.args.symbols.now c.requires.begins c.requires.room (rw c.if-branch.false at c.in_ok-enum_constants_full.ensures)
    (unread (λ x. (x.0, x.1.now)) c.enum_front_of.result _ c.enum_front_of.ensures (rw c.in_default.is at c.in_ok-found.ensures))

pub walk_enum-walk_behind_constants-requires : goal.walk_enum-walk_behind_constants-requires
walk_enum-walk_behind_constants-requires t c =
    let there = was-read (λ x. (x.0, x.1.now)) c.enum_front_of.result _ _ c.enum_front_of.ensures (rw c.in-Some.is at c.in_ok-found.ensures) in
    let less = reads-less enum_front c.args.room c.args.symbols.now c.in-Some.found.0 c.in-Some.found.1.now there in
    (omega (arith, c.decreases, less), omega (arith, c.requires.room, less))

pub walk_enum-returns : goal.walk_enum-returns
walk_enum-returns t c =
    let there = was-read (λ x. (x.0, x.1.now)) c.enum_front_of.result _ _ c.enum_front_of.ensures (rw c.in-Some.is at c.in_ok-found.ensures) in
    enum-walks c.args.room c.args.symbols.now c.in-Some.found.1.now c.in-Some.found.0 c.walk_behind_constants.result c.requires.begins c.requires.room (rw c.if-branch.false at c.in_ok-enum_constants_full.ensures) there c.walk_behind_constants.ensures

-- ---- a type

pub walk_type-returns : goal.walk_type-returns
walk_type-returns t c =
    type-stuck c.args.symbols.now (sym c.is_next.ensures ∙ c.if-is_next.false) (sym c.is_next-2.ensures ∙ c.if-is_next-2.false) (sym c.is_next-3.ensures ∙ c.if-is_next-3.false) (sym c.is_next-4.ensures ∙ c.if-is_next-4.false)
