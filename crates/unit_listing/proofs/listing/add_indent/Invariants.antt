use Rattle.std.proofs.Common.{◌≡◌, ◌++◌, take, string_bytes}
use Rattle.unit_listing.specs.Listing.{indent}
use Rattle.unit_listing.proofs.listing.add_indent.Given as goal

-- two spaces for each step so far
abbrev pub invariant-loop-step : goal.invariant-loop-step
invariant-loop-step l = string_bytes l.text ≡ string_bytes l.initial.text ++ indent (take l._step-index l.path)
