use Rattle.std.proofs.Common.{◌∙◌, None, Some, ap, sym}
use Rattle.case_table.specs.Rows.{number_of}
use Rattle.java_tokens.specs.Words.{word_rows}
use Rattle.java_tokens.proofs.LongestFronts.{word_number}
use Rattle.java_tokens.proofs.fronts.word_kind.Goals as goal

pub returns-in-Some : goal.returns-in-Some
returns-in-Some c =
    let found = sym (c.find.ensures ∙ ap (λ rows. number_of rows c.as_bytes.result.now) c.requires ∙ ap (number_of word_rows) c.as_bytes.ensures.value) ∙ c.in-Some.is in
    c.reserved_kind.ensures ∙ sym (word_number c.args.word.now (Some c.in-Some.number) c.utf8.word found)

pub returns-in-None : goal.returns-in-None
returns-in-None c =
    let found = sym (c.find.ensures ∙ ap (λ rows. number_of rows c.as_bytes.result.now) c.requires ∙ ap (number_of word_rows) c.as_bytes.ensures.value) ∙ c.in-None.is in
    sym (word_number c.args.word.now None c.utf8.word found)
