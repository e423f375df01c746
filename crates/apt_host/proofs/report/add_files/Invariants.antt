use Rattle.std.proofs.Common.{◌≡◌, ◌++◌, take, map}
use Rattle.std.specs.List.{flat_map}
use Rattle.apt_host.specs.Report.{file_line}
use Rattle.apt_host.specs.Listed.{listed}
use Rattle.apt_host.proofs.report.add_files.Given as goal

-- the lines so far are those of the files so far
abbrev pub invariant-loop-file : goal.invariant-loop-file
invariant-loop-file l = l.report.items ≡ l.fn.report.items ++ flat_map file_line (map listed (take l.file-index l.files))
