use Rattle.std.proofs.Common.{◌≡◌, ℕ, suc, ◌+◌, List, ◌∙◌, sym, ap, subst, arith}
use Rattle.decl_grammar.specs.Reading.{starts}
use Rattle.decl_grammar.specs.Grammar.{constant}
use Rattle.decl_grammar.proofs.Firsts.{constant_first}
use Rattle.decl_children.proofs.ItemForms.{constant-item}
use Rattle.decl_children.proofs.CommaRows.{RowSame, row-begins, row-goes, row-shrinks, row-full, row-over, row-unread, row-stops, unread, was-read}
use Rattle.decl_children.proofs.items.constants_full.Goals as goal

pub row-init : goal.row-init
row-init c = row-begins 2 constant c.args.symbols.now _ c.requires.opened c.behind-rest.ensures

-- as many as there may be
pub returns-then-count-ge-MAX_CHILDREN : goal.returns-then-count-ge-MAX_CHILDREN
returns-then-count-ge-MAX_CHILDREN c = row-full 2 constant c.args.symbols.now c.row.count c.row.rest.now c.if-count-ge-MAX_CHILDREN.true (ap (λ (ks : List ℕ). starts ks c.row.rest.now) constant_first ∙ sym c.starts_constant.ensures ∙ c.row-test.true) c.row.invariant

-- no item is read
pub returns-in_default : goal.returns-in_default
returns-in_default c =
    row-unread 2 constant constant-item c.args.symbols.now c.args.room c.row.count c.row.rest.now c.requires.room (omega (arith, c.if-count-ge-MAX_CHILDREN.false))
    (unread (λ x. (x.0, x.1.now)) c.constant_in.result _ c.constant_in.ensures (rw c.in_default.is at c.in_ok-after.ensures)) c.row.invariant

-- no comma stands behind it
pub returns-then-not-is_next : goal.returns-then-not-is_next
returns-then-not-is_next c =
    row-stops 2 constant constant-item c.args.symbols.now c.args.room c.row.count c.row.rest.now _ c.in-Some.after.now c.requires.room (omega (arith, c.if-count-ge-MAX_CHILDREN.false)) (was-read (λ x. (x.0, x.1.now)) c.constant_in.result _ _ c.constant_in.ensures (rw c.in-Some.is at c.in_ok-after.ensures)) (sym c.is_next.ensures ∙ c.if-not-is_next.true)
    c.row.invariant

pub row-smaller : goal.row-smaller
row-smaller c = row-shrinks constant c.args.room c.row.rest.now _ c.in-Some.after.now _ (was-read (λ x. (x.0, x.1.now)) c.constant_in.result _ _ c.constant_in.ensures (rw c.in-Some.is at c.in_ok-after.ensures)) (sym c.is_next.ensures ∙ c.if-not-is_next.false) c.behind-rest-in-row.ensures

pub row-preserved : goal.row-preserved
row-preserved c =
    let one : suc c.row.count ≡ c.row.count + 1 = omega arith in
    subst (λ (n : ℕ). RowSame 2 constant c.args.symbols.now n c.behind-rest-in-row.result.now) one
    (row-goes 2 constant constant-item c.args.symbols.now c.args.room c.row.count c.row.rest.now _ c.in-Some.after.now _ c.requires.room (omega (arith, c.if-count-ge-MAX_CHILDREN.false)) (was-read (λ x. (x.0, x.1.now)) c.constant_in.result _ _ c.constant_in.ensures (rw c.in-Some.is at c.in_ok-after.ensures)) (sym c.is_next.ensures ∙ c.if-not-is_next.false)
    c.behind-rest-in-row.ensures c.row.invariant)

-- none may begin
pub returns : goal.returns
returns c = row-over 2 constant constant-item c.args.symbols.now c.row.count c.row.rest.now (ap (λ (ks : List ℕ). starts ks c.row.rest.now) constant_first ∙ sym c.starts_constant.ensures ∙ c.row-test.false) c.row.invariant
