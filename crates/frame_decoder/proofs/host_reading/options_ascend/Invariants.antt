use Rattle.std.proofs.Common.{◌≡◌, None, drop}
use Rattle.std.specs.Option.{option_copied}
use Rattle.frame_decoder.specs.HostReadings.{options_ascend}
use Rattle.frame_decoder.proofs.host_reading.options_ascend.Given as goal

-- what is left to compare says what all say
abbrev pub invariant-loop-option : goal.invariant-loop-option
invariant-loop-option l = options_ascend (option_copied l.last) (drop l.option-index l.options) ≡ options_ascend None l.options
