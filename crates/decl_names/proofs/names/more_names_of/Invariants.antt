use Rattle.std.proofs.Common.{◌≡◌, length, string_bytes}
use Rattle.decl_grammar.specs.Form.{many, turned}
use Rattle.decl_grammar.specs.Constants.{more_dotted}
use Rattle.decl_grammar.specs.Types.{dot_name}
use Rattle.decl_grammar.specs.Rule.{reads}
use Rattle.decl_names.proofs.names.more_names_of.Given as goal

abbrev pub invariant-row : goal.invariant-row
invariant-row l = turned (more_dotted (string_bytes l.text)) (reads l.room (many dot_name) l.rest) ≡ turned (more_dotted (string_bytes l.fn.front)) (reads l.room (many dot_name) l.fn.symbols)

abbrev pub decreases-row : goal.decreases-row
decreases-row l = length l.rest
