use Rattle.std.proofs.Common.{◌≡◌, ◌++◌, length}
use Rattle.std.specs.Prelude.{map}
use Rattle.decl_grammar.specs.Grammar.{field_of}
use Rattle.decl_members.proofs.made_members.add_fields.Given as goal

abbrev pub invariant-row : goal.invariant-row
invariant-row l = l.all.items ++ map (field_of l.doc l.modifiers l.of) l.rest ≡ l.fn.front.items ++ map (field_of l.doc l.modifiers l.of) l.names

abbrev pub decreases-row : goal.decreases-row
decreases-row l = length l.rest
