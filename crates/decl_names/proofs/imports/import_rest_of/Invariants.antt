use Rattle.std.proofs.Common.{◌≡◌, length, string_bytes}
use Rattle.decl_grammar.specs.Form.{maybe, nest, import_rest, turned}
use Rattle.decl_grammar.specs.Rule.{reads}
use Rattle.decl_names.proofs.ImportRests.{ended_as}
use Rattle.decl_names.proofs.imports.import_rest_of.Given as goal

abbrev pub invariant-row : goal.invariant-row
invariant-row l = turned (ended_as (string_bytes l.text)) (reads l.room (maybe (nest import_rest)) l.rest) ≡ turned (ended_as (string_bytes l.fn.front)) (reads l.room (maybe (nest import_rest)) l.fn.symbols)

abbrev pub decreases-row : goal.decreases-row
decreases-row l = length l.rest
