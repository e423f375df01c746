use Rattle.std.proofs.Common.{◌≡◌, ◌++◌, map, drop, string_bytes}
use Rattle.type_resolve.specs.Spelling.{part_spelled, type_spelled, parts_spelled, types_spelled, joined_from}
use Rattle.type_resolve.proofs.spelling.+spelling.Given as goal

-- the text so far with what is left is the whole
abbrev pub invariant-add_parts-loop-each : goal.invariant-add_parts-loop-each
invariant-add_parts-loop-each l =
    string_bytes l.text ++ joined_from l.is_first 46 (map part_spelled (drop l.each-index l.parts)) ≡ string_bytes l.initial.text ++ parts_spelled l.parts

abbrev pub invariant-add_types-loop-each : goal.invariant-add_types-loop-each
invariant-add_types-loop-each l =
    string_bytes l.text ++ joined_from l.is_first 44 (map type_spelled (drop l.each-index l.types)) ≡ string_bytes l.initial.text ++ types_spelled l.types
