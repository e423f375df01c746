use Rattle.std.proofs.Common.{◌∙◌, take, codes, bytes_eq, ap, sym}
use Rattle.java_tokens.proofs.TokensGathered.{doc_short, doc_tested}
use Rattle.java_tokens.proofs.token_reader.is_doc.Goals as goal

pub returns-then-eq : goal.returns-then-eq
returns-then-eq c = doc_short c.args.text.now c.utf8.text (sym c.eq.ensures ∙ c.if-eq.true)

pub returns : goal.returns
returns c = c.begins.ensures ∙ ap (λ b. bytes_eq (take 3 b) (codes "/**")) c.as_bytes.ensures.value ∙ doc_tested c.args.text.now c.utf8.text (sym c.eq.ensures ∙ c.if-eq.false)
