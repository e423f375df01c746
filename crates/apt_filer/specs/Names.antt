-- The names by which a processor creates files (JSR 269, `Filer`): each at most 1,024 bytes long.
use Rattle.std.specs.Prelude.{ℕ, ◌-◌, Bool, not, ◌&&◌, ◌||◌, ◌==◌, nat_eq, nat_le, List, length, take, codes}
use Rattle.std.specs.List.{list_all, slice_split, ends_with}
use Rattle.std.specs.Str.{bytes_eq}
use Rattle.apt_base.specs.Identifiers.{is_dotted}
use Rattle.wire_frames.specs.declared.frame.Creation.{Creation}
use Rattle.wire_frames.specs.declared.frame.Creation.TheVariants.{Source, Resource, Class}

-- no longer than a name may be
abbrev pub is_short : List ℕ → Bool
is_short text = nat_le (length text) 1024

-- a package, not the empty one, followed by `.package-info`, which are 13 bytes (JLS 7.4.1)
abbrev pub is_info_name : List ℕ → Bool
is_info_name text = ends_with nat_eq text (codes ".package-info") && is_dotted (take (length text - 13) text)

-- the name of a type: identifiers joined by dots (JLS 3.8, 6.7); or that of a package's file `package-info.java`
unfoldable pub is_type_name : List ℕ → Bool
is_type_name text = is_short text && (is_dotted text || is_info_name text)

-- the name of a package, which is empty for the unnamed one (JLS 7.4.2)
unfoldable pub is_package_name : List ℕ → Bool
is_package_name text = is_short text && (bytes_eq text (codes "") || is_dotted text)

-- none of a control character (below U+0020, and U+007F) and `\`, which is 92: each of these is one byte
abbrev pub is_plain : ℕ → Bool
is_plain byte = nat_le 32 byte && not (byte == 127) && not (byte == 92)

-- a step of a path, which stays within the folder: not empty, not `.` and not `..`
abbrev pub is_segment : List ℕ → Bool
is_segment text =
    not (bytes_eq text (codes "")) && not (bytes_eq text (codes ".")) && not (bytes_eq text (codes "..")) && list_all is_plain text

-- the path of a resource below its package: segments joined by `/`, which is 47
unfoldable pub is_relative_name : List ℕ → Bool
is_relative_name text = is_short text && list_all is_segment (slice_split (λ byte. byte == 47) text)

-- the names of a creation are of this grammar, and a resource has one of the three locations
unfoldable pub is_well_named : Creation → Bool
is_well_named (Source name content origins) = is_type_name name
is_well_named (Resource location «package» relative content origins) =
    nat_le location 2 && is_package_name «package» && is_relative_name relative
is_well_named (Class name content origins) = is_type_name name
