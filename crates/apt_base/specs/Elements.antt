-- When two references of elements refer to one element.
use Rattle.std.specs.Prelude.{Bool, ◌&&◌}
use Rattle.std.specs.Str.{bytes_eq}
use Rattle.apt_base.specs.declared.element.ElementRef.{ElementRef}

-- the same unit and the same path
abbrev pub same_element : ElementRef → ElementRef → Bool
same_element one other = bytes_eq one.unit other.unit && bytes_eq one.path other.path
