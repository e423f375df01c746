-- The sorts of symbol that begin an annotation that is passed over.
use Rattle.std.proofs.Common.{◌≡◌, false, refl}
use Rattle.decl_grammar.specs.Form.{ats, first, nullable}
use Rattle.decl_grammar.specs.Types.{annotation}
use Rattle.decl_grammar.specs.Expressions.{annotation_over}

pub annotation_over_first : first annotation_over ≡ ats
unfolding annotation_over
annotation_over_first = refl

pub annotation_over_full : nullable annotation_over ≡ false
unfolding annotation_over
annotation_over_full = refl
