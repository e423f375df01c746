use Rattle.std.proofs.Common.{rules}
use Rattle.std.proofs.lemmas.Fn.{always_returns_same}
use Rattle.record_forms.specs.RecordTable.{file_less}
use Rattle.run_entries.proofs.EntryLemmas.{by_path, sorted_by_path}
use Rattle.run_entries.proofs.recorded_entries.sort.Goals as goal

pub returns : goal.returns
returns c =
    let answers = always_returns_same _ _ _ (λ a r f k. search rules) in
    sorted_by_path _ _ (c.in_ok-sort_by.ensures.sorted file_less by_path answers) (c.sort_by.ensures.stable file_less by_path answers)
