use Rattle.std.proofs.Common.{◌≡◌, ◌++◌, map, drop, string_bytes}
use Rattle.unit_listing.specs.Words.{shown_row, spaced, words_among}
use Rattle.unit_listing.proofs.words.add_set.Given as goal

-- the text so far with the words of the rows that are left is the whole
abbrev pub invariant-loop-row : goal.invariant-loop-row
invariant-loop-row l =
    string_bytes l.text ++ spaced (words_among (map shown_row (drop l.row-index l.rows)) l.modifiers)
    ≡ string_bytes l.initial.text ++ spaced (words_among (map shown_row l.rows) l.modifiers)
