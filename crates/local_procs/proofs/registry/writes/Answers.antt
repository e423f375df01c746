use Rattle.std.proofs.Common.{sym, ap, ◌∙◌}
use Rattle.local_procs.specs.Registry.{file_of}
use Rattle.local_procs.proofs.Registering.{written_before_last, written_without_names, written_too_large, written_small}
use Rattle.local_procs.proofs.registry.writes.Goals as goal

pub returns-then-not-over : goal.returns-then-not-over
returns-then-not-over c = written_before_last c.args.over c.args.kept c.if-not-over.true

pub returns-then-is_empty : goal.returns-then-is_empty
returns-then-is_empty c =
    written_without_names c.args.over c.args.kept c.in_ok-names.names c.if-not-over.false c.in_ok-names.ensures (sym c.is_empty.ensures ∙ c.if-is_empty.true)

pub returns-then-is_too_large : goal.returns-then-is_too_large
returns-then-is_too_large c =
    written_too_large c.args.over c.args.kept c.in_ok-names.names c.in_ok-frame.frame c.if-not-over.false c.in_ok-names.ensures
    (sym c.is_empty.ensures ∙ c.if-is_empty.false) (c.in_ok-frame.ensures ∙ ap file_of c.as_slice.ensures)
    (sym c.is_too_large.ensures ∙ c.if-is_too_large.true)

pub returns : goal.returns
returns c =
    written_small c.args.over c.args.kept c.in_ok-names.names c.in_ok-frame.frame c.if-not-over.false c.in_ok-names.ensures
    (sym c.is_empty.ensures ∙ c.if-is_empty.false) (c.in_ok-frame.ensures ∙ ap file_of c.as_slice.ensures)
    (sym c.is_too_large.ensures ∙ c.if-is_too_large.false)
