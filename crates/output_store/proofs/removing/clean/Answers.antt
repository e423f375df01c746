use Rattle.std.proofs.Common.{◌∙◌}
use Rattle.output_store.proofs.OutputLemmas.{output_of-none}
use Rattle.output_store.proofs.RemovalLemmas.{all_removed, first_removed, nothing_left, count_same, first_of_record, output_kept_or_empty, outside_same}
use Rattle.output_store.proofs.removing.clean.Goals as goal

pub returns-clause-count : goal.returns-clause-count
returns-clause-count g c = λ told. c.in_ok-count.ensures.count told ∙ count_same _ _ (g.T.Tree.files c.empty_store.new.tree) ((c.in_ok-remove.ensures.change told).removed)

pub returns-clause-all : goal.returns-clause-all
returns-clause-all g c = λ told. all_removed _ _ _ ((c.in_ok-remove.ensures.change told).removed) (c.in_ok-count.ensures.all told)

pub returns-clause-gone : goal.returns-clause-gone
returns-clause-gone g c = λ told. nothing_left _ _ _ ((c.in_ok-remove.ensures.change told).removed) (c.in_ok-count.ensures.all told)

pub returns-clause-first : goal.returns-clause-first
returns-clause-first g c = λ told. first_removed _ _ _ ((c.in_ok-remove.ensures.change told).removed) (c.in_ok-count.ensures.first told)

pub returns-clause-output : goal.returns-clause-output
returns-clause-output g c = λ told. output_kept_or_empty _ _ (returns-clause-first g c told)

pub returns-clause-outside : goal.returns-clause-outside
returns-clause-outside g c = λ told. outside_same _ _ (returns-clause-first g c told)

pub returns-in_err-count-clause-first : goal.returns-in_err-count-clause-first
returns-in_err-count-clause-first g c = λ told. first_removed _ _ _ ((c.in_ok-remove.ensures.change told).removed) (c.in_err-count.ensures.first told)

pub returns-in_err-count-clause-output : goal.returns-in_err-count-clause-output
returns-in_err-count-clause-output g c = λ told. output_kept_or_empty _ _ (returns-in_err-count-clause-first g c told)

pub returns-in_err-count-clause-outside : goal.returns-in_err-count-clause-outside
returns-in_err-count-clause-outside g c = λ told. outside_same _ _ (returns-in_err-count-clause-first g c told)

pub returns-in_err-remove-clause-first : goal.returns-in_err-remove-clause-first
returns-in_err-remove-clause-first g c = λ told. first_of_record _ _ ((c.in_err-remove.ensures.change told).refused)

pub returns-in_err-remove-clause-output : goal.returns-in_err-remove-clause-output
returns-in_err-remove-clause-output g c = λ told. output_kept_or_empty _ _ (returns-in_err-remove-clause-first g c told)

pub returns-in_err-remove-clause-outside : goal.returns-in_err-remove-clause-outside
returns-in_err-remove-clause-outside g c = λ told. outside_same _ _ (returns-in_err-remove-clause-first g c told)

pub returns-clause-empty : goal.returns-clause-empty
returns-clause-empty g c = λ told. output_of-none _ ((returns-clause-gone g c told).record_gone)
