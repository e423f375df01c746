use Rattle.std.proofs.Common.{◌≡◌, length, string_bytes}
use Rattle.decl_grammar.specs.Constants.{chain_from}
use Rattle.decl_constants.proofs.constants.chain_behind.Given as goal

abbrev pub invariant-row : goal.invariant-row
invariant-row l = chain_from (string_bytes l.text) l.rest ≡ chain_from (string_bytes l.fn.front) l.fn.symbols

abbrev pub decreases-row : goal.decreases-row
decreases-row l = length l.rest
