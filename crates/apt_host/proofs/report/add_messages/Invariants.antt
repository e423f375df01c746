use Rattle.std.proofs.Common.{◌≡◌, ◌++◌, take, map}
use Rattle.std.specs.List.{flat_map}
use Rattle.apt_host.specs.CleanBuild.{reported_in}
use Rattle.apt_host.specs.Report.{message_line}
use Rattle.apt_host.proofs.report.add_messages.Given as goal

-- the lines of the messages so far
abbrev pub invariant-loop-placed : goal.invariant-loop-placed
invariant-loop-placed l = l.report.items ≡ l.fn.report.items ++ flat_map (message_line l.processors) (map (reported_in l.table) (take l.placed-index l.messages))
