use Rattle.std.proofs.Common.{◌≡◌, ◌++◌, length, map, ap, sym, ◌∙◌, append_assoc, rules}
use Rattle.std.specs.List.{flat_map}
use Rattle.std.proofs.lemmas.List.{length-map}
use Rattle.apt_host.specs.Report.{mode_line, told_lines, file_line, done_line}
use Rattle.apt_host.specs.Listed.{listed, summary_of}
use Rattle.apt_host.proofs.report.report.Goals as goal

pub returns : goal.returns
returns c =
    let summary = summary_of c.args.processors.now c.args.summary.now in
    let mode = mode_line c.args.summary.now.started in
    let told = told_lines summary in
    let lines = flat_map file_line (map listed c.args.files.now) in
    let done = done_line summary (length c.args.files.now) in
    let last : c.extend_from_slice.new.self.items ≡ c.add_files.new.report.items ++ done = search rules in
    last ∙ ap (λ t. t ++ done) (c.in_ok-add_files.ensures ∙ ap (λ t. t ++ lines) c.in_ok-report.ensures) ∙ append_assoc (mode ++ told) lines done ∙ append_assoc mode told (lines ++ done)
    ∙ ap (λ n. mode ++ (told ++ (lines ++ done_line summary n))) (sym (length-map c.args.files.now listed))
