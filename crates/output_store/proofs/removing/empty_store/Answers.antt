use Rattle.std.proofs.Common.{◌∙◌, map, string_bytes, ap}
use Rattle.output_store.proofs.RemovalLemmas.{all_as, first_as, first_of_none, all_as_listed}
use Rattle.output_store.proofs.removing.empty_store.Goals as goal

pub returns-clause-all : goal.returns-clause-all
returns-clause-all g c = λ told.
    all_as _ _ _ _ _ (all_as_listed _ _ _ c.new-none.ensures (ap (map string_bytes) c.as_slice.ensures.value ∙ c.in_ok-paths.ensures.paths told)) (c.in_ok-paths.ensures.same told) (c.in_ok-remove_others.ensures.all told)

pub returns-clause-first : goal.returns-clause-first
returns-clause-first g c = λ told.
    first_as _ _ _ _ _ (all_as_listed _ _ _ c.new-none.ensures (ap (map string_bytes) c.as_slice.ensures.value ∙ c.in_ok-paths.ensures.paths told)) (c.in_ok-paths.ensures.same told) (c.in_ok-remove_others.ensures.first told)

pub returns-in_err-remove_others-clause-first : goal.returns-in_err-remove_others-clause-first
returns-in_err-remove_others-clause-first g c = λ told.
    first_as _ _ _ _ _ (all_as_listed _ _ _ c.new-none.ensures (ap (map string_bytes) c.as_slice.ensures.value ∙ c.in_ok-paths.ensures.paths told)) (c.in_ok-paths.ensures.same told) (c.in_err-remove_others.ensures.first told)

pub returns-in_err-paths-clause-first : goal.returns-in_err-paths-clause-first
returns-in_err-paths-clause-first g c = λ told. first_of_none _ _ _ (c.in_err-paths.ensures.same told)
