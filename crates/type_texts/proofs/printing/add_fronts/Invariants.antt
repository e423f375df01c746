use Rattle.std.proofs.Common.{◌≡◌, ◌++◌, take, string_bytes}
use Rattle.std.specs.List.{flat_map}
use Rattle.type_texts.specs.Spelling.{front_of}
use Rattle.type_texts.proofs.printing.add_fronts.Given as goal

-- what stands in front of the base so far
abbrev pub invariant-loop-each : goal.invariant-loop-each
invariant-loop-each l = string_bytes l.text ≡ string_bytes l.initial.text ++ flat_map front_of (take l.each-index l.around)
