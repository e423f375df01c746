-- Where a file or a message comes from: the one unit of its originating elements (JSR 269, `Filer`, 'originating elements').
use Rattle.std.specs.Prelude.{ℕ, Bool, false, List, [], ◌∷◌, if◌then◌else◌}
use Rattle.std.specs.List.{list_all}
use Rattle.std.specs.Option.{option_to_list}
use Rattle.std.specs.Str.{bytes_eq}
use Rattle.apt_base.specs.declared.element.ElementRef.{ElementRef}
use Rattle.wire_frames.specs.declared.frame.Creation.{Creation}
use Rattle.wire_frames.specs.declared.frame.Creation.TheVariants.{Source, Resource, Class}
use Rattle.wire_frames.specs.declared.frame.Message.{Message}
use Rattle.apt_filer.specs.declared.origins.Origin as code
use Rattle.apt_filer.specs.declared.origins.Origin.TheVariants as origin

pub data Origin : Type 0 where
  -- all its originating elements are in this unit
  One : (unit : List ℕ) → Origin
  Several : Origin
  Missing : Origin

-- what the code gives
abbrev pub shown_origin : code.Origin → Origin
shown_origin (origin.One unit) = One unit.now
shown_origin origin.Several = Several
shown_origin origin.Missing = Missing

unfoldable pub origin_of : List ElementRef → Origin
origin_of [] = Missing
origin_of (at ∷ others) = if list_all (λ (other : ElementRef). bytes_eq at.unit other.unit) others then One at.unit else Several

-- the originating elements of a creation
abbrev pub originating : Creation → List ElementRef
originating (Source name content origins) = origins
originating (Resource location «package» relative content origins) = origins
originating (Class name content origins) = origins

abbrev pub file_origin : Creation → Origin
file_origin creation = origin_of (originating creation)

-- that of a message is the unit of its element
abbrev pub message_origin : Message → Origin
message_origin message = origin_of (option_to_list message.element)

-- this one unit
abbrev pub is_unit : List ℕ → Origin → Bool
is_unit unit (One other) = bytes_eq unit other
is_unit unit Several = false
is_unit unit Missing = false
