use Rattle.std.proofs.Common.{◌≡◌, ◌+◌, length}
use Rattle.std.specs.List.{position_or_len}
use Rattle.decl_grammar.specs.Constants.{is_plus}
use Rattle.decl_constants.proofs.constants.plus_at.Given as goal

abbrev pub invariant-row : goal.invariant-row
invariant-row l = (l.at + position_or_len is_plus l.rest ≡ position_or_len is_plus l.symbols) × (l.at + length l.rest ≡ length l.symbols)

abbrev pub decreases-row : goal.decreases-row
decreases-row l = length l.rest
