use Rattle.std.proofs.Common.{◌≡◌, length}
use Rattle.decl_grammar.specs.Form.{many, with_front}
use Rattle.decl_grammar.specs.Grammar.{import_form}
use Rattle.decl_grammar.specs.Rule.{reads}
use Rattle.decl_names.proofs.imports.more_imports_of.Given as goal

abbrev pub invariant-row : goal.invariant-row
invariant-row l = with_front l.all.items (reads l.room (many import_form) l.rest) ≡ with_front l.fn.front.items (reads l.room (many import_form) l.fn.symbols)

abbrev pub decreases-row : goal.decreases-row
decreases-row l = length l.rest
