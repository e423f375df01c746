use Rattle.std.proofs.Common.{◌≡◌, ◌++◌, map, ap, ◌∙◌, append_assoc, rules}
use Rattle.std.specs.List.{flat_map}
use Rattle.apt_host.specs.CleanBuild.{reported_in}
use Rattle.apt_host.specs.Report.{mode_line, message_line, unread_line}
use Rattle.apt_host.proofs.report.told_lines.Goals as goal

pub returns : goal.returns
returns c =
    let mode = mode_line c.args.summary.now.started in
    let messages = flat_map (message_line c.args.processors.now) (map (reported_in c.args.summary.now.table) c.args.summary.now.messages) in
    let unread = flat_map unread_line c.args.summary.now.unread in
    let first : c.into_bytes-report.result.items ≡ mode = search rules in
    let second : c.add_messages.new.report.items ≡ c.into_bytes-report.result.items ++ messages = search rules in
    let third : c.add_closing_lines.new.report.items ≡ c.add_messages.new.report.items ++ unread = search rules in
    third ∙ ap (λ t. t ++ unread) (second ∙ ap (λ t. t ++ messages) first) ∙ append_assoc mode messages unread
