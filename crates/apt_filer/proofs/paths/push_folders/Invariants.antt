use Rattle.std.proofs.Common.{◌≡◌, ◌++◌, string_bytes, length}
use denote.Text.{Utf8}
use denote.Shadow.{shadow}
use Rattle.apt_filer.specs.Filing.{folders_of}
use Rattle.apt_filer.proofs.paths.push_folders.Given as goal

-- the folders so far, and those of what is left
abbrev pub invariant-loop-first : goal.invariant-loop-first
invariant-loop-first l = shadow (Utf8 l.rest) × (string_bytes l.path ++ folders_of l.rest ≡ string_bytes l.fn.path ++ folders_of l.name)

abbrev pub decreases-loop-first : goal.decreases-loop-first
decreases-loop-first l = length l.rest
