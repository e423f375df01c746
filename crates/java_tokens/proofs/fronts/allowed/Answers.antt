use Rattle.std.proofs.Common.{◌∙◌, take, codes, bytes_eq, sym, ap, subst}
use Rattle.java_tokens.specs.Table.{separates, is_text_block, Passes}
use Rattle.java_tokens.proofs.LongestFronts.{no_comment, no_block, front_chosen}
use Rattle.java_tokens.proofs.fronts.allowed.Goals as goal

pub returns-then-clashes : goal.returns-then-clashes
returns-then-clashes c =
    let h = c.if-clashes.ensures in
    no_comment c.args.text.now c.args.front.width c.args.front.kind c.utf8.text c.requires (ap (λ b. bytes_eq (take 2 b) (codes "/*")) (sym c.as_bytes.ensures.value) ∙ h.0) (sym c.separates.ensures ∙ h.1)

pub returns-then-clashes-2 : goal.returns-then-clashes-2
returns-then-clashes-2 c =
    let h = c.if-clashes-2.ensures in
    no_block c.args.text.now c.args.front.width c.args.front.kind c.utf8.text c.requires (ap (λ b. bytes_eq (take 3 b) (codes "\"\"\"")) (sym c.as_bytes-2.ensures.value) ∙ h.0) (sym c.is_text_block.ensures ∙ h.1)

pub returns : goal.returns
returns c =
    let comment : Passes (codes "/*") c.args.text.now (separates c.args.front.kind) =
    subst (λ b. Passes (codes "/*") b (separates c.args.front.kind)) c.as_bytes.ensures.value (subst (Passes (codes "/*") c.as_bytes.result.now) c.separates.ensures c.if-clashes.ensures) in
    let block : Passes (codes "\"\"\"") c.args.text.now (is_text_block c.args.front.kind) =
    subst (λ b. Passes (codes "\"\"\"") b (is_text_block c.args.front.kind)) c.as_bytes-2.ensures.value (subst (Passes (codes "\"\"\"") c.as_bytes-2.result.now) c.is_text_block.ensures c.if-clashes-2.ensures) in
    front_chosen c.args.text.now c.args.front.width c.args.front.kind c.utf8.text c.requires comment block
