use Rattle.std.proofs.Common.{◌≡◌, ℕ, List, ◌*◌, ◌≤◌, length, vec_len, rules, ⊎_elim, sym, subst, ◌∙◌, arith}
use Rattle.decl_grammar.specs.declared.symbol.Symbol.{Symbol}
use Rattle.decl_grammar.specs.Reading.{done}
use Rattle.decl_grammar.specs.Rule.{reads}
use Rattle.decl_grammar.specs.Types.{annotations, optional_params}
use Rattle.decl_grammar.proofs.Progress.{done_rest}
use Rattle.decl_children.specs.Fronts.{Tells}
use Rattle.decl_children.specs.Results.{NamedCrowds, ExecutableCrowds}
use Rattle.decl_children.proofs.CommaRows.{unread, was-read}
use Rattle.decl_children.proofs.ParamOnes.{reads-less}
use Rattle.decl_children.proofs.Executables.{HeadCrowds, either-of, in-heading, heading-goes, heading-back, headed-as}
use Rattle.decl_children.proofs.WalkAnswers.{tells-as}
use Rattle.decl_children.proofs.results.executable_full.Goals as goal

-- no type parameters are read
pub returns-in_default : goal.returns-in_default
returns-in_default c = λ t.
    ⊎_elim (rw c.if-branch.false at c.in_ok-params_crowd.ensures)
    (λ (h : HeadCrowds c.args.symbols.now).
    let g = heading-goes c.args.room c.args.symbols.now c.requires.room h in
    unread (λ x. (x.0.items, x.1.now)) c.optional_params_of.result _ c.optional_params_of.ensures (rw c.in_default.is at c.in_ok-found.ensures) g.params g.mid g.params_read)
    (either-of c.args.symbols.now t)

-- no annotations are
pub returns-in_default-2 : goal.returns-in_default-2
returns-in_default-2 c = λ t.
    let e = was-read (λ x. (x.0.items, x.1.now)) c.optional_params_of.result _ _ c.optional_params_of.ensures (rw c.in-Some.is at c.in_ok-found.ensures) in
    ⊎_elim (rw c.if-branch.false at c.in_ok-params_crowd.ensures)
    (λ (h : HeadCrowds c.args.symbols.now).
    let g = heading-goes c.args.room c.args.symbols.now c.requires.room h in
    let same : g.mid ≡ c.in-Some.found.1.now = done_rest g.params _ g.mid c.in-Some.found.1.now (sym g.params_read ∙ e) in
    unread (λ x. (x.0.items, x.1.now)) c.annotations_of.result _ c.annotations_of.ensures (rw c.in_default-2.is at c.in_ok-rest.ensures) g.marks g.rest
    (subst (λ (ts : List Symbol). reads c.args.room annotations ts ≡ done g.marks g.rest) same g.marks_read))
    (either-of c.args.symbols.now t)

pub named_full-requires : goal.named_full-requires
named_full-requires c =
    let e = was-read (λ x. (x.0.items, x.1.now)) c.optional_params_of.result _ _ c.optional_params_of.ensures (rw c.in-Some.is at c.in_ok-found.ensures) in
    let d = was-read (λ x. (x.0.items, x.1.now)) c.annotations_of.result _ _ c.annotations_of.ensures (rw c.in-Some-2.is at c.in_ok-rest.ensures) in
    record { room = omega (arith, c.requires.room, reads-less optional_params c.args.room c.args.symbols.now _ c.in-Some.found.1.now e, reads-less annotations c.args.room c.in-Some.found.1.now _ c.in-Some-2.rest.now d) }

pub returns : goal.returns
returns c =
    let e = was-read (λ x. (x.0.items, x.1.now)) c.optional_params_of.result _ _ c.optional_params_of.ensures (rw c.in-Some.is at c.in_ok-found.ensures) in
    let d = was-read (λ x. (x.0.items, x.1.now)) c.annotations_of.result _ _ c.annotations_of.ensures (rw c.in-Some-2.is at c.in_ok-rest.ensures) in
    let all : vec_len c.in-Some.found.0 ≡ length c.in-Some.found.0.items = search rules in
    tells-as (NamedCrowds (length c.in-Some.found.0.items) c.in-Some-2.rest.now) (ExecutableCrowds c.args.symbols.now) c.named_full.result
    (λ n. in-heading c.args.symbols.now (heading-back c.args.room c.args.symbols.now c.in-Some.found.1.now c.in-Some-2.rest.now c.in-Some.found.0.items _ e d n))
    (λ t. ⊎_elim (λ p. absurd ((rw c.if-branch.false at c.in_ok-params_crowd.ensures) p))
    (λ (h : HeadCrowds c.args.symbols.now). headed-as c.args.room c.args.symbols.now c.in-Some.found.1.now c.in-Some-2.rest.now c.in-Some.found.0.items _ e d (heading-goes c.args.room c.args.symbols.now c.requires.room h)) (either-of c.args.symbols.now t))
    (subst (λ (k : ℕ). Tells (NamedCrowds k c.in-Some-2.rest.now) c.named_full.result) (c.len.ensures ∙ all) c.named_full.ensures)
