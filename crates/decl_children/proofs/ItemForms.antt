-- Type parameters and the constants of enums as items of lists.
use Rattle.std.proofs.Common.{◌≡◌, true, false, ◌++◌, refl}
use Rattle.decl_grammar.specs.Symbols.{operator, numbers}
use Rattle.decl_grammar.specs.TokenNames as token
use Rattle.decl_grammar.specs.Reading.{has}
use Rattle.decl_grammar.specs.Types.{name, named_text, dot_name, name_chain, first_pair, next_pair, pairs_or_value, annotation_arguments, annotation_body, annotation, annotations, named_part, next_part, class_type, annotated_class, next_bound, bounds, type_param}
use Rattle.decl_grammar.specs.Grammar.{optional_over, constant_part, constant}
use Rattle.decl_grammar.specs.Form.{ats, names, nullable, first}
use Rattle.decl_grammar.proofs.OneToken.{ok, more}
use Rattle.decl_grammar.proofs.Rivals.{plain}
use Rattle.decl_grammar.proofs.Firsts.{constant_full}
use Rattle.decl_grammar.proofs.RuleFair.{fair}
use Rattle.decl_grammar.proofs.Knot.{sound-plain}
use Rattle.decl_children.proofs.CommaRows.{IsItem}

type-param-ok : ok type_param ≡ true
unfolding numbers name named_text dot_name name_chain first_pair next_pair pairs_or_value annotation_arguments annotation_body annotation annotations named_part next_part class_type annotated_class next_bound bounds type_param
type-param-ok = refl

type-param-plain : plain type_param ≡ true
unfolding numbers name named_text dot_name name_chain first_pair next_pair pairs_or_value annotation_arguments annotation_body annotation annotations named_part next_part class_type annotated_class next_bound bounds type_param
type-param-plain = refl

type-param-never : nullable type_param ≡ false
unfolding type_param annotations
type-param-never = refl

pub type_param_first : first type_param ≡ ats ++ names
unfolding type_param annotations annotation name
type_param_first = refl

type-param-ends : has (more type_param) (operator token.comma) ≡ false
unfolding numbers name named_text dot_name name_chain first_pair next_pair pairs_or_value annotation_arguments annotation_body annotation annotations named_part next_part class_type annotated_class next_bound bounds type_param
type-param-ends = refl

pub type-param-item : IsItem type_param
type-param-item = record { sound = sound-plain fair type_param type-param-ok type-param-plain; never = type-param-never; ends = type-param-ends }

constant-ok : ok constant ≡ true
unfolding numbers name named_text dot_name name_chain first_pair next_pair pairs_or_value annotation_arguments annotation_body annotation annotations optional_over constant_part constant
constant-ok = refl

constant-plain : plain constant ≡ true
unfolding numbers name named_text dot_name name_chain first_pair next_pair pairs_or_value annotation_arguments annotation_body annotation annotations optional_over constant_part constant
constant-plain = refl

constant-ends : has (more constant) (operator token.comma) ≡ false
unfolding numbers name named_text dot_name name_chain first_pair next_pair pairs_or_value annotation_arguments annotation_body annotation annotations optional_over constant_part constant
constant-ends = refl

pub constant-item : IsItem constant
constant-item = record { sound = sound-plain fair constant constant-ok constant-plain; never = constant_full; ends = constant-ends }
