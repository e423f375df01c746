use Rattle.std.proofs.Common.{◌≡◌, ◌∙◌, subst, sym}
use Rattle.std.specs.Prelude.{MatchBool}
use Rattle.java_tokens.specs.TokensShown.{codes_in, offsets_in, shown_tokens}
use Rattle.vector_tables.proofs.CasesLemmas.{tokens_answer, bad_memory}
use Rattle.vector_tables.proofs.case.has_tokens.Goals as goal

pub returns-in-Ok : goal.returns-in-Ok
returns-in-Ok c =
    tokens_answer (codes_in c.args.chars.now) (offsets_in c.args.chars.now) (shown_tokens c.in-Ok.found.items) (shown_tokens c.args.list.now) c.are_equal.result c.in-Ok.ensures.tokens c.in-Ok.ensures.list
    (subst (λ ts. MatchBool c.are_equal.result (shown_tokens ts ≡ shown_tokens c.args.list.now) (¬ (shown_tokens ts ≡ shown_tokens c.args.list.now))) c.as_slice.ensures.value c.are_equal.ensures)

pub returns-in-Err-Bad : goal.returns-in-Err-Bad
returns-in-Err-Bad c = λ have. bad_memory _ (sym c.in-Err-Bad.field-0-is ∙ c.in-Err-Bad.ensures.list _ have)
