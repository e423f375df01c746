use Rattle.std.proofs.Common.{◌≡◌, ◌++◌, take}
use Rattle.apt_host.specs.Report.{escaped}
use Rattle.apt_host.proofs.report.add_escaped.Given as goal

-- the bytes so far are escaped
abbrev pub invariant-loop-byte : goal.invariant-loop-byte
invariant-loop-byte l = l.report.items ≡ l.fn.report.items ++ escaped (take l.byte-index l.text)
