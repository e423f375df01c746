-- The sorts of symbol that begin constant forms and their parts.
use Rattle.std.proofs.Common.{◌≡◌, false, [], ◌∷◌, refl}
use Rattle.decl_grammar.specs.Symbols.{numbers}
use Rattle.decl_grammar.specs.Form.{first, names, nullable, primitive_sorts}
use Rattle.decl_grammar.specs.Types.{name, primitive_type}
use Rattle.decl_grammar.specs.Expressions.{array_class, bare_dim, dot_class, literal_constant, named_constant, negated_constant, plus_constant, primitive_class}

pub plus_constant_first : first plus_constant ≡ 89 ∷ []
unfolding plus_constant
plus_constant_first = refl

pub plus_constant_full : nullable plus_constant ≡ false
unfolding plus_constant
plus_constant_full = refl

pub bare_dim_first : first bare_dim ≡ 65 ∷ []
unfolding bare_dim
bare_dim_first = refl

pub bare_dim_full : nullable bare_dim ≡ false
unfolding bare_dim
bare_dim_full = refl

pub array_class_first : first array_class ≡ 65 ∷ []
unfolding array_class bare_dim dot_class
array_class_first = refl

pub literal_constant_first : first literal_constant ≡ numbers 2 7
unfolding literal_constant
literal_constant_first = refl

pub named_constant_first : first named_constant ≡ names
unfolding named_constant name
named_constant_first = refl

pub negated_constant_first : first negated_constant ≡ 90 ∷ []
unfolding negated_constant
negated_constant_first = refl

pub primitive_class_first : first primitive_class ≡ primitive_sorts
unfolding primitive_class primitive_type
primitive_class_first = refl
