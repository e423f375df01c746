use Rattle.std.proofs.Common.{◌≡◌, length}
use Rattle.decl_grammar.specs.Form.{many, turned}
use Rattle.decl_grammar.specs.Types.{silently}
use Rattle.decl_grammar.specs.Expressions.{annotation_over}
use Rattle.decl_grammar.specs.Rule.{reads}
use Rattle.decl_names.proofs.annotations_over.more_annotations_over_of.Given as goal

abbrev pub invariant-row : goal.invariant-row
invariant-row l = turned silently (reads l.room (many annotation_over) l.rest) ≡ turned silently (reads l.room (many annotation_over) l.fn.symbols)

abbrev pub decreases-row : goal.decreases-row
decreases-row l = length l.rest
