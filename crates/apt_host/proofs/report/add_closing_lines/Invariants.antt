use Rattle.std.proofs.Common.{◌≡◌, ◌++◌, take}
use Rattle.std.specs.List.{flat_map}
use Rattle.apt_host.specs.Report.{unread_line}
use Rattle.apt_host.proofs.report.add_closing_lines.Given as goal

-- the lines of the sources so far
abbrev pub invariant-loop-name : goal.invariant-loop-name
invariant-loop-name l = l.report.items ≡ l.fn.report.items ++ flat_map unread_line (take l.name-index l.unread)
