use Rattle.std.proofs.Common.{◌≡◌, ◌++◌, take}
use Rattle.std.specs.List.{flat_map}
use Rattle.apt_base.specs.Forms.{name_form}
use Rattle.apt_base.proofs.writing.write_texts.Given as goal

-- the items so far are written
abbrev pub invariant-loop-each : goal.invariant-loop-each
invariant-loop-each l = l.writer ≡ l.initial.writer ++ flat_map name_form (take l.each-index l.items)
