use Rattle.std.proofs.Common.{◌≡◌, ◌++◌, take, string_bytes}
use Rattle.std.specs.List.{flat_map}
use Rattle.type_texts.specs.Spelling.{back_of}
use Rattle.type_texts.proofs.printing.add_backs.Given as goal

-- what stands behind the base so far
abbrev pub invariant-loop-each : goal.invariant-loop-each
invariant-loop-each l = string_bytes l.text ≡ string_bytes l.initial.text ++ flat_map back_of (take l.each-index l.around)
