use Rattle.std.proofs.Common.{drop, ap, ◌∙◌, subst}
use Rattle.std.proofs.lemmas.List.{take_rest}
use Rattle.java_tokens.specs.Table.{IsLineLength}
use Rattle.java_tokens.proofs.Comments.{line_comment_found}
use Rattle.java_tokens.proofs.automaton.line_comment.Goals as goal

pub returns : goal.returns
returns c =
    line_comment_found c.args.text.now c.line_length.result c.utf8.text c.requires
    (subst (λ b. IsLineLength b c.line_length.result) (take_rest c.as_bytes.result.now 2 ∙ ap (drop 2) c.as_bytes.ensures.value) c.line_length.ensures)
