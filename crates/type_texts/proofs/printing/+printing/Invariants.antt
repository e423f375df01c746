use Rattle.std.proofs.Common.{◌≡◌, ◌++◌, map, drop, string_bytes}
use Rattle.type_texts.specs.Print.{text_of}
use Rattle.type_texts.specs.Spelling.{types_text, listed_from}
use Rattle.type_texts.proofs.printing.+printing.Given as goal

-- the text so far with what is left is the whole
abbrev pub invariant-add_types-loop-each : goal.invariant-add_types-loop-each
invariant-add_types-loop-each l =
    string_bytes l.text ++ listed_from l.is_first (map (text_of l.table) (drop l.each-index l.types)) ≡ string_bytes l.initial.text ++ types_text l.table l.types
