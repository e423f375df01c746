use Rattle.std.proofs.Common.{ap, ◌∙◌, subst, drop, codes, arith}
use Rattle.std.proofs.lemmas.List.{take_rest}
use Rattle.memchr.specs.Find.{FindsNeedle}
use Rattle.std.specs.Prelude.{Some, None}
use Rattle.java_tokens.proofs.Comments.{block_comment_found, block_comment_unclosed}
use Rattle.java_tokens.proofs.automaton.block_comment.Goals as goal

pub returns-in-Some : goal.returns-in-Some
returns-in-Some c =
    let first : FindsNeedle (drop 2 c.args.text.now) (codes "*/") 0 (Some c.in-Some.length) =
    subst (λ b. FindsNeedle b (codes "*/") 0 (Some c.in-Some.length)) (take_rest c.as_bytes.result.now 2 ∙ ap (drop 2) c.as_bytes.ensures.value) c.in-Some.ensures in
    block_comment_found c.args.text.now c.in-Some.length c.utf8.text c.requires first.1 (λ k less. first.0.before k (omega arith) less)

pub returns-in-None : goal.returns-in-None
returns-in-None c =
    let nowhere : FindsNeedle (drop 2 c.args.text.now) (codes "*/") 0 None =
    subst (λ b. FindsNeedle b (codes "*/") 0 None) (take_rest c.as_bytes.result.now 2 ∙ ap (drop 2) c.as_bytes.ensures.value) c.in-None.ensures in
    block_comment_unclosed c.args.text.now c.utf8.text c.requires (λ k less. nowhere k (omega arith) (omega (arith, less)))
