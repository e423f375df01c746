use Rattle.std.proofs.Common.{◌≡◌, ◌<◌, List, [], ◌∷◌, ◌∙◌, length, sym, ap, subst, drop, arith}
use Rattle.apt_base.specs.declared.memory.NoMemory.{NoMemory}
use Rattle.decl_grammar.specs.declared.symbol.Symbol.{Symbol}
use Rattle.decl_grammar.specs.Reading.{starts}
use Rattle.decl_grammar.proofs.OneToken.{not_both}
use Rattle.decl_children.specs.ParamReads.{ParamRead, TailCrowds}
use Rattle.decl_children.proofs.ParamCounts.{param_firsts, tail-goes, tail-back, tail-full, tail-begins}
use Rattle.decl_children.proofs.ParamOnes.{param-less}
use Rattle.decl_children.proofs.WalkAnswers.{tells-of, tail-open, tail-same, comma-less}
use Rattle.decl_children.proofs.params.more_full.Goals as goal

pub row-init : goal.row-init
row-init c = rw c.all-rest.ensures (omega arith, λ t. t, λ t. t)

-- as many as there may be
pub returns-then-count-ge-MAX_CHILDREN : goal.returns-then-count-ge-MAX_CHILDREN
returns-then-count-ge-MAX_CHILDREN c =
    tells-of NoMemory (TailCrowds c.args.before c.args.symbols.now) c.starts_params.result (starts param_firsts (drop 1 c.row.rest.now)) (c.starts_params.ensures ∙ ap (λ (ts : List Symbol). starts param_firsts ts) c.behind-next.ensures)
    (λ s. c.row.invariant.2 (tail-full c.row.count c.row.rest.now c.if-count-ge-MAX_CHILDREN.true (sym c.is_next.ensures ∙ c.row-test.true) s))
    (λ t. (tail-begins c.row.count c.row.rest.now (c.row.invariant.1 t)).1)

-- none is read
pub returns-in_default : goal.returns-in_default
returns-in_default c = λ t.
    let g = tail-goes c.row.count c.args.room c.row.rest.now (omega (arith, c.requires.room, c.row.invariant.0)) (omega (arith, c.if-count-ge-MAX_CHILDREN.false)) (c.row.invariant.1 t) in
    (rw c.in_default.is at c.in_ok-found.ensures) g.end g.after (subst (λ (ts : List Symbol). ParamRead c.args.room ts g.end g.after) (sym c.behind-next.ensures) g.there)

-- it takes any number of arguments
pub returns-then-is_open : goal.returns-then-is_open
returns-then-is_open c = λ t.
    tail-open c.row.count c.args.room c.row.rest.now c.in-Some.found.0 c.in-Some.found.1.now (omega (arith, c.requires.room, c.row.invariant.0)) (omega (arith, c.if-count-ge-MAX_CHILDREN.false))
    (subst (λ (ts : List Symbol). ParamRead c.args.room ts c.in-Some.found.0 c.in-Some.found.1.now) c.behind-next.ensures (rw c.in-Some.is at c.in_ok-found.ensures)) (sym c.is_open.ensures ∙ c.if-is_open.true) (c.row.invariant.1 t)

pub row-smaller-else-is_open : goal.row-smaller-else-is_open
row-smaller-else-is_open c =
    subst (λ (ts : List Symbol). length ts < length c.row.rest.now) (sym c.all-rest-in-row.ensures)
    (comma-less c.args.room c.row.rest.now c.in-Some.found.0 c.in-Some.found.1.now (sym c.is_next.ensures ∙ c.row-test.true)
    (subst (λ (ts : List Symbol). ParamRead c.args.room ts c.in-Some.found.0 c.in-Some.found.1.now) c.behind-next.ensures (rw c.in-Some.is at c.in_ok-found.ensures)))

pub row-smaller : goal.row-smaller
row-smaller c =
    subst (λ (ts : List Symbol). length ts < length c.row.rest.now) (sym c.all-rest-in-row.ensures)
    (comma-less c.args.room c.row.rest.now c.in-Some.found.0 c.in-Some.found.1.now (sym c.is_next.ensures ∙ c.row-test.true)
    (subst (λ (ts : List Symbol). ParamRead c.args.room ts c.in-Some.found.0 c.in-Some.found.1.now) c.behind-next.ensures (rw c.in-Some.is at c.in_ok-found.ensures)))

pub row-preserved-else-is_open : goal.row-preserved-else-is_open
row-preserved-else-is_open c =
    tail-same c.args.before c.row.count c.argument_count-count.result c.args.room c.args.symbols.now c.row.rest.now c.in-Some.found.1.now c.all-rest-in-row.result.now c.in-Some.found.0 c.requires.room (omega (arith, c.if-count-ge-MAX_CHILDREN.false))
    (sym c.is_next.ensures ∙ c.row-test.true) (subst (λ (ts : List Symbol). ParamRead c.args.room ts c.in-Some.found.0 c.in-Some.found.1.now) c.behind-next.ensures (rw c.in-Some.is at c.in_ok-found.ensures))
    (sym c.is_open.ensures ∙ c.if-is_open.false) c.argument_count-count.ensures c.all-rest-in-row.ensures c.row.invariant

pub row-preserved : goal.row-preserved
row-preserved c =
    tail-same c.args.before c.row.count c.argument_count-count.result c.args.room c.args.symbols.now c.row.rest.now c.in-Some.found.1.now c.all-rest-in-row.result.now c.in-Some.found.0 c.requires.room (omega (arith, c.if-count-ge-MAX_CHILDREN.false))
    (sym c.is_next.ensures ∙ c.row-test.true) (subst (λ (ts : List Symbol). ParamRead c.args.room ts c.in-Some.found.0 c.in-Some.found.1.now) c.behind-next.ensures (rw c.in-Some.is at c.in_ok-found.ensures))
    (sym c.is_open.ensures ∙ c.if-is_open.false) c.argument_count-count.ensures c.all-rest-in-row.ensures c.row.invariant

-- none stands here
pub returns : goal.returns
returns c = λ t. not_both (starts (68 ∷ []) c.row.rest.now) (tail-begins c.row.count c.row.rest.now (c.row.invariant.1 t)).0 (sym c.is_next.ensures ∙ c.row-test.false)
