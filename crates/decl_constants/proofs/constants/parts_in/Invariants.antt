use Rattle.std.proofs.Common.{◌≡◌, length}
use Rattle.std.specs.List.{position_or_len}
use Rattle.decl_grammar.specs.Constants.{is_plus, parts_of}
use Rattle.decl_constants.proofs.Parts.{parts_behind}
use Rattle.decl_constants.proofs.constants.parts_in.Given as goal

abbrev pub invariant-row : goal.invariant-row
invariant-row l = (parts_behind l.all (parts_of l.rest) ≡ parts_of l.symbols) × (l.at ≡ position_or_len is_plus l.rest)

abbrev pub decreases-row : goal.decreases-row
decreases-row l = length l.rest
