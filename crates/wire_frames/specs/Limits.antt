-- Which frames are too large to be sent: those whose mirrors and values are nested more than 256 deep, and those that
-- are longer than 134,217,728 bytes.
use Rattle.std.specs.Prelude.{ℕ, List, Bool, ◌||◌, length, nat_lt}
use Rattle.type_mirror.specs.declared.value.Value.{Value}
use Rattle.type_mirror.specs.Nesting.{value_nesting}
use Rattle.frame_forms.specs.Depths.{depth_in}
use Rattle.frame_forms.specs.FrameTable.{frame_form}
use Rattle.frame_forms.specs.Frames.{most_nested, most_fields}
use Rattle.wire_frames.specs.declared.frame.Frame.{Frame}
use Rattle.wire_frames.specs.Frames.{shown}
use Rattle.wire_frames.specs.Spellings.{fields_spelled}

-- how deep a value with its name is nested
abbrev pub nesting_of_named : List ℕ × Value → ℕ
nesting_of_named named = value_nesting named.1

-- how deep the mirrors and values of a frame are nested, counted together where one holds the other
unfoldable pub nesting : Frame → ℕ
nesting frame = depth_in frame_form (shown frame)

abbrev pub is_too_deep : Frame → Bool
is_too_deep frame = nat_lt most_nested (nesting frame)

-- its tag and its fields take more bytes than fit; of a frame that is nested too deep that is not asked
abbrev pub is_too_long : Frame → Bool
is_too_long frame = nat_lt most_fields (length (fields_spelled (shown frame)))

unfoldable pub is_too_large : Frame → Bool
is_too_large frame = is_too_deep frame || is_too_long frame
