use Rattle.std.proofs.Common.{◌≡◌, ◌++◌, drop, flat_map}
use Rattle.local_procs.specs.Registry.{line_of}
use Rattle.local_procs.proofs.registry.lines_of.Given as goal

-- with the lines of the rest, the text is whole
abbrev pub invariant-loop-name : goal.invariant-loop-name
invariant-loop-name l = l.text ++ flat_map line_of (drop l.name-index l.names) ≡ flat_map line_of l.names
