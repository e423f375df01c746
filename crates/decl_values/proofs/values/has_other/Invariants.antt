use Rattle.std.proofs.Common.{◌≡◌, length}
use Rattle.std.specs.List.{list_any}
use Rattle.decl_grammar.specs.Expressions.{is_other}
use Rattle.decl_values.proofs.values.has_other.Given as goal

abbrev pub invariant-row : goal.invariant-row
invariant-row l = list_any is_other l.rest ≡ list_any is_other l.values

abbrev pub decreases-row : goal.decreases-row
decreases-row l = length l.rest
