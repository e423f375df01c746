use Rattle.std.proofs.Common.{arith, ◌∙◌, sym}
use Rattle.std.proofs.lemmas.Result.{err_from_is_err_and}
use Rattle.decl_grammar.specs.Form.{many}
use Rattle.decl_grammar.specs.Types.{with_marks}
use Rattle.decl_grammar.specs.Grammar.{param_modifier, final_and}
use Rattle.decl_grammar.proofs.Nests.{fewer-turned}
use Rattle.decl_types.proofs.ParamRows.{final-joined, final-fails, final-shut, plain-joined, param-moved, one-fewer}
use Rattle.decl_types.proofs.params.first_behind_of.Goals as goal

pub returns-in_err-rest : goal.returns-in_err-rest
returns-in_err-rest c =
    let p = err_from_is_err_and c.from_residual.result c.from_residual.ensures.1 in
    rw (p.1, p.2) (final-shut c.args.room c.args.symbols.now c.args.annotations _ (sym c.is_next.ensures ∙ c.if-is_next.true) c.in_err-rest.ensures)

pub returns-in_err-modifiers : goal.returns-in_err-modifiers
returns-in_err-modifiers c =
    let p = err_from_is_err_and c.from_residual-in_err-modifiers.result c.from_residual-in_err-modifiers.ensures.1 in
    rw (p.1, p.2) (final-fails c.args.room c.args.symbols.now c.in_ok-rest.rest.now c.args.annotations _ _ (sym c.is_next.ensures ∙ c.if-is_next.true) c.in_ok-rest.ensures c.in_err-modifiers.ensures)

pub returns-then-is_next : goal.returns-then-is_next
returns-then-is_next c =
    param-moved (λ x. (x.0, x.1.now)) c.based_param_of.result c.args.room c.in_ok-modifiers.rest.now c.args.symbols.now _ _
    (final-joined c.args.room c.args.symbols.now c.in_ok-rest.rest.now c.in_ok-modifiers.rest.now c.args.annotations _ c.in_ok-modifiers.modifiers (sym c.is_next.ensures ∙ c.if-is_next.true) c.in_ok-rest.ensures c.in_ok-modifiers.ensures)
    (omega (arith, one-fewer _ _ _ _ c.in_ok-rest.ensures, fewer-turned c.args.room (many param_modifier) (with_marks (final_and c.args.annotations)) _ _ _ c.in_ok-modifiers.ensures)) c.based_param_of.ensures

pub returns : goal.returns
returns c = param-moved (λ x. (x.0, x.1.now)) c.based_first_of.result c.args.room c.args.symbols.now c.args.symbols.now _ _ (plain-joined c.args.room c.args.symbols.now c.args.annotations (sym c.is_next.ensures ∙ c.if-is_next.false)) (omega arith) c.based_first_of.ensures
