use Rattle.std.proofs.Common.{sym, ◌∙◌}
use Rattle.std.proofs.lemmas.Bool.{true≢false}
use Rattle.tree_store.proofs.StorePaths.{decimal_read, decimal_unread, decimal_not_plain}
use Rattle.tree_store.proofs.store.plain_number.Goals as goal

pub returns-in-Ok : goal.returns-in-Ok
returns-in-Ok c = decimal_read c.in-Ok.number c.args.digits.now c.in-Ok.ensures.value.0 (rw c.as_bytes.ensures.value at (c.is_plain.ensures.0 c.if-is_plain.true))

pub returns-in_default : goal.returns-in_default
returns-in_default c = λ n small. decimal_not_plain n c.args.digits.now small (λ plain. true≢false (sym (c.is_plain.ensures.1 (rw c.as_bytes.ensures.value plain)) ∙ c.if-is_plain.false))

pub returns-in_default-2 : goal.returns-in_default-2
returns-in_default-2 c = λ n small. decimal_unread n c.args.digits.now small c.in_default.ensures.value.0
