use Rattle.std.proofs.Common.{◌≡◌, ◌++◌, map, drop, string_bytes}
use Rattle.type_texts.specs.Print.{text_of}
use Rattle.type_texts.specs.Spelling.{types_text, listed_from}
use Rattle.unit_listing.proofs.type_words.add_types.Given as goal

-- the text so far with what is left is the whole
abbrev pub invariant-loop-each : goal.invariant-loop-each
invariant-loop-each l =
    string_bytes l.text ++ listed_from l.is_first (map (text_of l.table) (drop l.each-index l.types)) ≡ string_bytes l.initial.text ++ types_text l.table l.types
