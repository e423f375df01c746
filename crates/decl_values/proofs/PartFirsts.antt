-- The sorts of symbol that begin parts of expressions, and values.
use Rattle.std.proofs.Common.{◌≡◌, false, [], ◌∷◌, refl}
use Rattle.decl_grammar.specs.Form.{first, names, nullable, pair, turn, many}
use Rattle.decl_grammar.specs.Types.{annotation, annotations, class_array, class_type, first_and_rest, first_pair, name, named_part, next_argument, primitive_array, primitive_type, reference, type_argument, wildcard}
use Rattle.decl_grammar.specs.Expressions.{created_part, next_created_part}
use Rattle.decl_values.specs.Ends.{argument_firsts, created_class}
use Rattle.decl_grammar.specs.Expressions.{constant_array}

pub argument_list_first : first (turn first_and_rest (pair type_argument (many next_argument))) ≡ argument_firsts
unfolding type_argument annotations annotation wildcard reference class_array class_type named_part name primitive_array primitive_type next_argument
argument_list_first = refl

pub next_created_part_first : first next_created_part ≡ 69 ∷ []
unfolding next_created_part
next_created_part_first = refl

pub next_created_part_full : nullable next_created_part ≡ false
unfolding next_created_part
next_created_part_full = refl

pub created_class_first : first created_class ≡ names
unfolding created_class created_part next_created_part name
created_class_first = refl

pub first_pair_first : first first_pair ≡ 1 ∷ []
unfolding first_pair
first_pair_first = refl

pub constant_array_first : first constant_array ≡ 63 ∷ []
unfolding constant_array
constant_array_first = refl
