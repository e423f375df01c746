use Rattle.std.proofs.Common.{◌≡◌, None, drop}
use Rattle.std.specs.Option.{option_copied}
use Rattle.frame_decoder.specs.HostReadings.{texts_ascend}
use Rattle.frame_decoder.proofs.host_reading.texts_ascend.Given as goal

-- what is left to compare says what all say
abbrev pub invariant-loop-text : goal.invariant-loop-text
invariant-loop-text l = texts_ascend (option_copied l.last) (drop l.text-index l.texts) ≡ texts_ascend None l.texts
