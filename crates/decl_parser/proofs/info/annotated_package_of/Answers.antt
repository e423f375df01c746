use Rattle.decl_grammar.specs.Grammar.{package_part}
use Rattle.decl_grammar.proofs.Nests.{fewer}
use Rattle.decl_parser.proofs.info.annotated_package_of.Goals as goal

pub slice_bounds-doc_before-count : goal.slice_bounds-doc_before-count
slice_bounds-doc_before-count c = fewer c.args.room package_part c.args.symbols.now _ _ c.in_ok-annotations.ensures
