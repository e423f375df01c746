use Rattle.std.proofs.Common.{◌≡◌, true, take}
use Rattle.std.specs.List.{list_all}
use Rattle.apt_base.specs.Identifiers.{is_pattern}
use Rattle.wire_frames.proofs.reading.are_patterns.Given as goal

abbrev pub invariant-loop-text : goal.invariant-loop-text
invariant-loop-text l = list_all is_pattern (take l.text-index l.texts) ≡ true
