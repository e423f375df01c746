use Rattle.std.proofs.Common.{◌≡◌, ◌++◌, ap, ◌∙◌, append_assoc, rules}
use Rattle.apt_host.specs.Report.{mode_line, told_lines, errors_line}
use Rattle.apt_host.specs.Listed.{summary_of}
use Rattle.apt_host.proofs.report.errors_report.Goals as goal

pub returns : goal.returns
returns c =
    let summary = summary_of c.args.processors.now c.args.summary.now in
    let mode = mode_line c.args.summary.now.started in
    let told = told_lines summary in
    let last : c.extend_from_slice.new.self.items ≡ c.in_ok-report.report.items ++ errors_line summary = search rules in
    last ∙ ap (λ t. t ++ errors_line summary) c.in_ok-report.ensures ∙ append_assoc mode told (errors_line summary)
