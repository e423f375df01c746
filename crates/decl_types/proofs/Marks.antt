-- Modifiers are gathered one by one.
use Rattle.std.proofs.Common.{refl}
use Rattle.decl_grammar.specs.Types.{with_mark, with_marks}
use Rattle.decl_grammar.proofs.Loop.{Folds}

pub marks : Folds with_mark with_marks
marks = record { none = λ s. refl; more = λ s x xs. refl }
