use Rattle.std.proofs.Common.{◌≡◌, ◌++◌, length}
use denote.Text.{Utf8}
use denote.Shadow.{shadow}
use Rattle.apt_base.specs.Identifiers.{parts}
use Rattle.name_resolve.specs.Parts.{lent}
use Rattle.name_resolve.proofs.names.split.Given as goal

-- the parts so far, and those of what is left
abbrev pub invariant-loop-first : goal.invariant-loop-first
invariant-loop-first l = shadow (Utf8 l.rest) × (lent l.names.items ++ parts l.rest ≡ parts l.text)

abbrev pub decreases-loop-first : goal.decreases-loop-first
decreases-loop-first l = length l.rest
