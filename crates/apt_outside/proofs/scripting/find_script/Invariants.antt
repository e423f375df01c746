use Rattle.std.proofs.Common.{◌≡◌, drop}
use Rattle.apt_outside.specs.Scripted.{script_of}
use Rattle.apt_outside.proofs.scripting.find_script.Given as goal

abbrev pub invariant-loop-script : goal.invariant-loop-script
invariant-loop-script l = script_of (drop l.script-index l.scripts) l.name ≡ script_of l.scripts l.name
