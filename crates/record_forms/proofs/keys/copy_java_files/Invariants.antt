use Rattle.std.proofs.Common.{◌≡◌, take}
use Rattle.record_forms.proofs.keys.copy_java_files.Given as goal

-- the copies so far are what came so far
abbrev pub invariant-loop-each : goal.invariant-loop-each
invariant-loop-each l = l.copies ≡ take l.each-index l.files
