use Rattle.std.proofs.Common.{◌≡◌, length}
use denote.Text.{Utf8}
use denote.Shadow.{shadow}
use Rattle.apt_base.specs.Identifiers.{parts, names_then, is_identifier}
use Rattle.apt_base.proofs.identifier.is_dotted.Given as goal

-- what is left decides for the whole text
abbrev pub invariant-loop-first : goal.invariant-loop-first
invariant-loop-first l = shadow (Utf8 l.rest) × (names_then is_identifier (parts l.rest) ≡ names_then is_identifier (parts l.text))

abbrev pub decreases-loop-first : goal.decreases-loop-first
decreases-loop-first l = length l.rest
