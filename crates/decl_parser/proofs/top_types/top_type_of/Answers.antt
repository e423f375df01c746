use Rattle.decl_grammar.specs.Grammar.{modified_type}
use Rattle.decl_grammar.proofs.Nests.{fewer}
use Rattle.decl_parser.proofs.top_types.top_type_of.Goals as goal

pub slice_bounds-doc_before-count : goal.slice_bounds-doc_before-count
slice_bounds-doc_before-count c = fewer c.args.room modified_type c.args.symbols.now _ _ c.in_ok-modifiers.ensures
