-- The text of a class that a processor creates beside another one.
use Rattle.std.specs.Prelude.{ℕ, ◌-◌, ◌==◌, Bool, List, [], ◌∷◌, ◌++◌, length, take, codes}
use Rattle.apt_base.specs.declared.element.ElementRef.{ElementRef}
use Rattle.wire_frames.specs.declared.frame.Creation.TheVariants as creation
use Rattle.wire_frames.specs.declared.frame.Frame.{Frame}
use Rattle.wire_frames.specs.declared.frame.Frame.TheVariants as frame
use Rattle.wire_frames.specs.declared.reply.Info.{Info}

abbrev pub is_class : ℕ → Bool
is_class kind = kind == 2

-- A class's canonical name without its simple name and the `.` in front of that: nothing where it is in the unnamed package.
abbrev pub package_of : Info → List ℕ
package_of info = take (length info.canonical - length info.simple - 1) info.canonical

abbrev pub package_line : List ℕ → List ℕ
package_line [] = []
package_line (byte ∷ others) = codes "package " ++ (byte ∷ others) ++ codes ";\n"

-- a source file of an element
abbrev pub source_of : ElementRef → List ℕ → List ℕ → Frame
source_of element name content = frame.Create (creation.Source name content (element ∷ []))
