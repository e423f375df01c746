use Rattle.std.proofs.Common.{◌≡◌, ℕ, ◌+◌, List, ◌∙◌, sym, ap, subst, drop, arith}
use Rattle.apt_base.specs.declared.memory.NoMemory.{NoMemory}
use Rattle.decl_grammar.specs.declared.symbol.Symbol.{Symbol}
use Rattle.decl_grammar.specs.Reading.{starts}
use Rattle.decl_children.specs.ParamReads.{FirstRead, TailCrowds, ParamsCrowd, arguments_of}
use Rattle.decl_children.proofs.ParamCounts.{param_firsts, params-goes, params-back, params-full, params-begins}
use Rattle.decl_children.proofs.WalkAnswers.{tells-of, tells-as, params-open, params-next, inside-less}
use Rattle.decl_children.proofs.params.params_full.Goals as goal

-- as many type parameters as there may be children
pub returns-then-before-ge-MAX_CHILDREN : goal.returns-then-before-ge-MAX_CHILDREN
returns-then-before-ge-MAX_CHILDREN c =
    tells-of NoMemory (ParamsCrowd c.args.before c.args.symbols.now) c.starts_params.result (starts param_firsts (drop 1 c.args.symbols.now)) (c.starts_params.ensures ∙ ap (λ (ts : List Symbol). starts param_firsts ts) c.behind-inside.ensures)
    (λ s. params-full c.args.before c.args.symbols.now c.if-before-ge-MAX_CHILDREN.true c.requires.opened s)
    (λ t. params-begins c.args.before c.args.symbols.now t)

-- no first one is read
pub returns-in_default : goal.returns-in_default
returns-in_default c = λ t.
    let g = params-goes c.args.before c.args.room c.args.symbols.now c.requires.room (omega (arith, c.if-before-ge-MAX_CHILDREN.false)) t in
    (rw c.in_default.is at c.in_ok-found.ensures) g.end g.after (subst (λ (ts : List Symbol). FirstRead c.args.room ts g.end g.after) (sym c.behind-inside.ensures) g.there)

-- it takes any number of arguments
pub returns-then-is_open : goal.returns-then-is_open
returns-then-is_open c = λ t.
    params-open c.args.before c.args.room c.args.symbols.now c.in-Some.found.0 c.in-Some.found.1.now c.requires.room (omega (arith, c.if-before-ge-MAX_CHILDREN.false))
    (subst (λ (ts : List Symbol). FirstRead c.args.room ts c.in-Some.found.0 c.in-Some.found.1.now) c.behind-inside.ensures (rw c.in-Some.is at c.in_ok-found.ensures)) (sym c.is_open.ensures ∙ c.if-is_open.true) t

pub more_full-requires : goal.more_full-requires
more_full-requires c =
    let there = subst (λ (ts : List Symbol). FirstRead c.args.room ts c.in-Some.found.0 c.in-Some.found.1.now) c.behind-inside.ensures (rw c.in-Some.is at c.in_ok-found.ensures) in
    record { room = omega (arith, c.requires.room, inside-less c.args.room c.args.symbols.now c.in-Some.found.0 c.in-Some.found.1.now there) }

pub returns : goal.returns
returns c =
    let there = subst (λ (ts : List Symbol). FirstRead c.args.room ts c.in-Some.found.0 c.in-Some.found.1.now) c.behind-inside.ensures (rw c.in-Some.is at c.in_ok-found.ensures) in
    let count : c.args.before + c.argument_count.result ≡ c.args.before + arguments_of c.in-Some.found.0 = ap (λ (n : ℕ). c.args.before + n) c.argument_count.ensures in
    tells-as (TailCrowds (c.args.before + c.argument_count.result) c.in-Some.found.1.now) (ParamsCrowd c.args.before c.args.symbols.now) c.more_full.result
    (λ t. params-back c.args.before c.args.room c.args.symbols.now c.in-Some.found.0 c.in-Some.found.1.now c.requires.opened there (sym c.is_open.ensures ∙ c.if-is_open.false) (subst (λ (n : ℕ). TailCrowds n c.in-Some.found.1.now) count t))
    (λ t. subst (λ (n : ℕ). TailCrowds n c.in-Some.found.1.now) (sym count) (params-next c.args.before c.args.room c.args.symbols.now c.in-Some.found.0 c.in-Some.found.1.now c.requires.room (omega (arith, c.if-before-ge-MAX_CHILDREN.false)) there t))
    c.more_full.ensures
