use Rattle.std.proofs.Common.{sym, ◌∙◌}
use Rattle.java_tokens.proofs.SortsLemmas.{ascii_sort, ascii_less, letter_sort, part_sort, no_sort}
use Rattle.java_tokens.proofs.automaton.sort_of.Goals as goal

pub returns-then-c-lt128-clause-value : goal.returns-then-c-lt128-clause-value
returns-then-c-lt128-clause-value c = ascii_sort c.args.c c.if-c-lt128.true

pub returns-then-c-lt128-clause-sort : goal.returns-then-c-lt128-clause-sort
returns-then-c-lt128-clause-sort c = ascii_less c.args.c

pub returns-then-is_xid_start-clause-value : goal.returns-then-is_xid_start-clause-value
returns-then-is_xid_start-clause-value c = letter_sort c.args.c c.if-c-lt128.false (sym c.is_xid_start.ensures.value ∙ c.if-is_xid_start.true)

pub returns-then-is_xid_continue-clause-value : goal.returns-then-is_xid_continue-clause-value
returns-then-is_xid_continue-clause-value c =
    part_sort c.args.c c.if-c-lt128.false (sym c.is_xid_start.ensures.value ∙ c.if-is_xid_start.false) (sym c.is_xid_continue.ensures.value ∙ c.if-is_xid_continue.true)

pub returns-else-is_xid_continue-clause-value : goal.returns-else-is_xid_continue-clause-value
returns-else-is_xid_continue-clause-value c =
    no_sort c.args.c c.if-c-lt128.false (sym c.is_xid_start.ensures.value ∙ c.if-is_xid_start.false) (sym c.is_xid_continue.ensures.value ∙ c.if-is_xid_continue.false)
