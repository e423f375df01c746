use Rattle.std.proofs.Common.{ℕ, List, refl, ◌∙◌, sym, ap}
use Rattle.std.proofs.lemmas.Result.{err_from_is_err_and}
use Rattle.decl_grammar.specs.Reading.{starts}
use Rattle.decl_grammar.specs.Form.{nested_type}
use Rattle.decl_grammar.specs.Grammar.{modified_form, member_form}
use Rattle.decl_types.specs.Members.{with_members, behind_members}
use Rattle.decl_types.proofs.MemberFirsts.{member_first, member_full}
use Rattle.decl_types.proofs.MemberFolds.{members_fold}
use Rattle.decl_parser.proofs.MemberReads.{semicolon-read, semicolon-fails, block-read, block-fails, declared-read}
use Rattle.decl_grammar.proofs.Loop.{fold-falls, folds, fold-ends, fold-stops}
use Rattle.decl_grammar.proofs.Nests.{some-is, none-fails, fewer}
use Rattle.decl_parser.proofs.+declarations.Goals as goal

pub declarations::nested_type_of-returns-then-room-gt0 : goal.declarations::nested_type_of-returns-then-room-gt0
declarations::nested_type_of-returns-then-room-gt0 t c = rw (some-is nested_type refl c.args.room c.args.symbols.now c.if-room-gt0.true) c.type_rest_of.ensures

pub declarations::nested_type_of-returns : goal.declarations::nested_type_of-returns
declarations::nested_type_of-returns t c = none-fails nested_type refl c.args.room c.args.symbols.now c.starts_type_word.result c.shut.result c.if-room-gt0.false c.starts_type_word.ensures c.shut.ensures

pub bodies::documented_of-slice_bounds-doc_before-count : goal.bodies::documented_of-slice_bounds-doc_before-count
bodies::documented_of-slice_bounds-doc_before-count t c = fewer c.args.room (modified_form c.args.kind) c.args.symbols.now _ _ c.in_ok-modifiers.ensures

pub bodies::more_members_of-returns-in_err-next : goal.bodies::more_members_of-returns-in_err-next
bodies::more_members_of-returns-in_err-next t c =
    let p = err_from_is_err_and c.from_residual-in_err-next.result c.from_residual-in_err-next.ensures.1 in
    rw (p.1, p.2) (fold-ends c.args.room (member_form c.args.kind) behind_members with_members c.row.all.items c.row.rest.now _ _ (member_full c.args.kind) (ap (λ (ks : List ℕ). starts ks c.row.rest.now) (member_first c.args.kind) ∙ sym c.starts_member.ensures ∙ c.row-test.true) c.in_err-next.ensures c.row.invariant)

pub bodies::more_members_of-row-smaller : goal.bodies::more_members_of-row-smaller
bodies::more_members_of-row-smaller t c = fold-falls c.args.room (member_form c.args.kind) behind_members c.row.all.items c.row.rest.now c.in_ok-next.next.items c.in_ok-next.after.now (member_full c.args.kind) c.in_ok-next.ensures

pub bodies::more_members_of-row-preserved : goal.bodies::more_members_of-row-preserved
bodies::more_members_of-row-preserved t c = folds c.args.room (member_form c.args.kind) behind_members with_members members_fold c.row.all.items c.row.rest.now c.in_ok-next.next.items c.in_ok-next.after.now _ (member_full c.args.kind) (ap (λ (ks : List ℕ). starts ks c.row.rest.now) (member_first c.args.kind) ∙ sym c.starts_member.ensures ∙ c.row-test.true) c.in_ok-next.ensures c.row.invariant

pub bodies::more_members_of-returns : goal.bodies::more_members_of-returns
bodies::more_members_of-returns t c = fold-stops c.args.room (member_form c.args.kind) behind_members with_members members_fold c.row.all.items c.row.rest.now _ (member_full c.args.kind) (ap (λ (ks : List ℕ). starts ks c.row.rest.now) (member_first c.args.kind) ∙ sym c.starts_member.ensures ∙ c.row-test.false) c.row.invariant

pub bodies::member_of-returns-in_err-rest : goal.bodies::member_of-returns-in_err-rest
bodies::member_of-returns-in_err-rest t c =
    let p = err_from_is_err_and c.from_residual.result c.from_residual.ensures.1 in
    rw (p.1, p.2) (semicolon-fails c.args.room c.args.kind c.args.front.items c.args.symbols.now _ (sym c.is_next.ensures ∙ c.if-is_next.true) c.in_err-rest.ensures)

pub bodies::member_of-returns-then-is_next : goal.bodies::member_of-returns-then-is_next
bodies::member_of-returns-then-is_next t c = semicolon-read c.args.room c.args.kind c.args.front.items c.args.symbols.now c.in_ok-rest.rest.now _ (sym c.is_next.ensures ∙ c.if-is_next.true) c.in_ok-rest.ensures

pub bodies::member_of-returns-in_err-rest-2 : goal.bodies::member_of-returns-in_err-rest-2
bodies::member_of-returns-in_err-rest-2 t c =
    let p = err_from_is_err_and c.from_residual-in_err-rest-2.result c.from_residual-in_err-rest-2.ensures.1 in
    rw (p.1, p.2) (block-fails c.args.room c.args.kind c.args.front.items c.args.symbols.now _ (sym c.is_next.ensures ∙ c.if-is_next.false) (sym c.is_initialiser.ensures ∙ c.if-is_initialiser.true) c.in_err-rest-2.ensures)

pub bodies::member_of-returns-then-is_initialiser : goal.bodies::member_of-returns-then-is_initialiser
bodies::member_of-returns-then-is_initialiser t c = block-read c.args.room c.args.kind c.args.front.items c.args.symbols.now c.in_ok-rest-2.rest.now (sym c.is_next.ensures ∙ c.if-is_next.false) (sym c.is_initialiser.ensures ∙ c.if-is_initialiser.true) c.in_ok-rest-2.ensures

pub bodies::member_of-returns : goal.bodies::member_of-returns
bodies::member_of-returns t c = rw (declared-read c.args.room c.args.kind c.args.symbols.now (sym c.is_next.ensures ∙ c.if-is_next.false) (sym c.is_initialiser.ensures ∙ c.if-is_initialiser.false)) c.documented_of.ensures
