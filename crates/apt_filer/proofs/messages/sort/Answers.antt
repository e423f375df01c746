use Rattle.std.proofs.Common.{rules}
use Rattle.std.proofs.lemmas.Fn.{always_returns_same}
use Rattle.apt_filer.specs.Reports.{is_before}
use Rattle.apt_filer.proofs.ReportLemmas.{by_report, sorted_is_reported}
use Rattle.apt_filer.proofs.messages.sort.Goals as goal

pub returns-clause-sorted : goal.returns-clause-sorted
returns-clause-sorted c = c.in_ok-sort_by.ensures.sorted is_before by_report (always_returns_same _ _ _ (λ a r f k. search rules))

pub returns-clause-order : goal.returns-clause-order
returns-clause-order c =
    let answers = always_returns_same _ _ _ (λ a r f k. search rules) in
    sorted_is_reported _ _ (c.in_ok-sort_by.ensures.sorted is_before by_report answers) (c.sort_by.ensures.stable is_before by_report answers)
