use Rattle.decl_grammar.specs.Grammar.{constant_part}
use Rattle.decl_grammar.proofs.Nests.{fewer}
use Rattle.decl_members.proofs.enums.constant_in.Goals as goal

pub slice_bounds-doc_before-count : goal.slice_bounds-doc_before-count
slice_bounds-doc_before-count c = fewer c.args.room constant_part c.args.symbols.now _ _ c.in_ok-annotations.ensures
