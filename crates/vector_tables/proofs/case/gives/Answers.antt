use Rattle.std.proofs.Common.{string_bytes, subst, sym, ◌∙◌, ap, bytes_eq}
use Rattle.std.proofs.lemmas.Str.{IsUtf8-string_bytes}
use Rattle.std.specs.Prelude.{MatchBool}
use Rattle.java_tokens.specs.TokensShown.{codes_in, offsets_in}
use Rattle.vector_tables.specs.Cases.{shown_expected, GivenBy}
use Rattle.vector_tables.proofs.CasesLemmas.{text_answer}
use Rattle.vector_tables.proofs.case.gives.Goals as goal

pub returns-in-Characters : goal.returns-in-Characters
returns-in-Characters c =
    let codes = codes_in c.args.chars.now in
    let offsets = offsets_in c.args.chars.now in
    subst (λ e. MatchBool c.eq.result (GivenBy codes offsets (shown_expected e)) (¬ GivenBy codes offsets (shown_expected e))) (sym c.in-Characters.is)
    (text_answer (string_bytes c.args.chars.now.text) c.in-Characters.text.now c.eq.result (IsUtf8-string_bytes c.args.chars.now.text) (c.eq.ensures ∙ ap (λ t. bytes_eq t c.in-Characters.text.now) c.as_str.ensures))
