-- The sorts of symbol that begin the forms between which reading chooses.
use Rattle.std.proofs.Common.{◌≡◌, false, [], ◌∷◌, ◌++◌, refl}
use Rattle.decl_grammar.specs.Form.{ats, first, first_of, modifier_words, names, nested_type, nullable, plain_words, primitive_sorts}
use Rattle.decl_grammar.specs.Types.{annotation, annotation_arguments, annotations, bounds, class_array, class_type, dim, modifier, modifier_annotation, name, named_part, next_argument, next_bound, next_class, next_pair, next_part, next_type_param, plain_modifier, primitive_type, type_modifiers, type_params, wildcard, wildcard_bound}
use Rattle.decl_grammar.specs.Grammar.{annotated_package, annotation_form, class_form, constant, constant_list, constant_part, enum_form, import_form, import_named, interface_form, modified_type, package_form, package_part, param_modifier, some_constants, top_type, type_rest}

pub annotation_first : first annotation ≡ ats
unfolding annotation
annotation_first = refl

pub annotation_full : nullable annotation ≡ false
unfolding annotation
annotation_full = refl

pub arguments_first : first annotation_arguments ≡ 61 ∷ []
unfolding annotation_arguments
arguments_first = refl

pub next_pair_first : first next_pair ≡ names
unfolding next_pair name
next_pair_first = refl

pub next_pair_full : nullable next_pair ≡ false
unfolding next_pair name
next_pair_full = refl

pub primitive_type_first : first primitive_type ≡ primitive_sorts
unfolding primitive_type
primitive_type_first = refl

pub primitive_type_full : nullable primitive_type ≡ false
unfolding primitive_type
primitive_type_full = refl

pub next_part_first : first next_part ≡ 69 ∷ []
unfolding next_part
next_part_first = refl

pub next_part_full : nullable next_part ≡ false
unfolding next_part
next_part_full = refl

pub class_type_first : first class_type ≡ 0 ∷ 1 ∷ []
unfolding class_type named_part name
class_type_first = refl

pub class_type_full : nullable class_type ≡ false
unfolding class_type named_part name
class_type_full = refl

pub dim_first : first dim ≡ ats ++ 65 ∷ []
unfolding dim annotations annotation
dim_first = refl

pub dim_full : nullable dim ≡ false
unfolding dim annotations annotation
dim_full = refl

pub wildcard_bound_first : first wildcard_bound ≡ 26 ∷ 49 ∷ []
unfolding wildcard_bound
wildcard_bound_first = refl

pub wildcard_bound_full : nullable wildcard_bound ≡ false
unfolding wildcard_bound
wildcard_bound_full = refl

pub wildcard_first : first wildcard ≡ 78 ∷ []
unfolding wildcard
wildcard_first = refl

pub wildcard_full : nullable wildcard ≡ false
unfolding wildcard
wildcard_full = refl

pub next_argument_first : first next_argument ≡ 68 ∷ []
unfolding next_argument
next_argument_first = refl

pub next_argument_full : nullable next_argument ≡ false
unfolding next_argument
next_argument_full = refl

pub class_array_first : first class_array ≡ names
unfolding class_array class_type named_part name
class_array_first = refl

pub modifier_annotation_first : first modifier_annotation ≡ 71 ∷ []
unfolding modifier_annotation
modifier_annotation_first = refl

pub modifier_annotation_full : nullable modifier_annotation ≡ false
unfolding modifier_annotation
modifier_annotation_full = refl

pub modifier_first : first modifier ≡ modifier_words ++ 71 ∷ []
unfolding modifier modifier_annotation
modifier_first = refl

pub modifier_full : nullable modifier ≡ false
unfolding modifier modifier_annotation
modifier_full = refl

pub plain_modifier_first : first plain_modifier ≡ plain_words ++ 71 ∷ []
unfolding plain_modifier modifier_annotation
plain_modifier_first = refl

pub plain_modifier_full : nullable plain_modifier ≡ false
unfolding plain_modifier modifier_annotation
plain_modifier_full = refl

pub param_modifier_first : first param_modifier ≡ 27 ∷ ats
unfolding param_modifier annotation
param_modifier_first = refl

pub param_modifier_full : nullable param_modifier ≡ false
unfolding param_modifier annotation
param_modifier_full = refl

pub bounds_first : first bounds ≡ 26 ∷ []
unfolding bounds
bounds_first = refl

pub bounds_full : nullable bounds ≡ false
unfolding bounds
bounds_full = refl

pub next_bound_first : first next_bound ≡ 93 ∷ []
unfolding next_bound
next_bound_first = refl

pub next_bound_full : nullable next_bound ≡ false
unfolding next_bound
next_bound_full = refl

pub type_params_first : first type_params ≡ 75 ∷ []
unfolding type_params
type_params_first = refl

pub type_params_full : nullable type_params ≡ false
unfolding type_params
type_params_full = refl

pub next_type_param_first : first next_type_param ≡ 68 ∷ []
unfolding next_type_param
next_type_param_first = refl

pub next_type_param_full : nullable next_type_param ≡ false
unfolding next_type_param
next_type_param_full = refl

pub next_class_first : first next_class ≡ 68 ∷ []
unfolding next_class
next_class_first = refl

pub next_class_full : nullable next_class ≡ false
unfolding next_class
next_class_full = refl

pub package_form_first : first package_form ≡ 41 ∷ []
unfolding package_form
package_form_first = refl

pub package_form_full : nullable package_form ≡ false
unfolding package_form
package_form_full = refl

pub name_first : first name ≡ names
unfolding name
name_first = refl

pub name_full : nullable name ≡ false
unfolding name
name_full = refl

pub import_named_first : first import_named ≡ names
unfolding import_named name
import_named_first = refl

pub import_named_full : nullable import_named ≡ false
unfolding import_named name
import_named_full = refl

pub import_form_first : first import_form ≡ 34 ∷ []
unfolding import_form
import_form_first = refl

pub import_form_full : nullable import_form ≡ false
unfolding import_form
import_form_full = refl

pub top_type_first : first top_type ≡ (67 ∷ []) ++ ((modifier_words ++ 71 ∷ []) ++ first_of nested_type)
unfolding top_type modified_type type_modifiers modifier modifier_annotation type_rest class_form interface_form annotation_form enum_form
top_type_first = refl

pub top_type_full : nullable top_type ≡ false
unfolding top_type modified_type type_modifiers modifier modifier_annotation type_rest class_form interface_form annotation_form enum_form
top_type_full = refl

pub class_form_first : first class_form ≡ 18 ∷ []
unfolding class_form
class_form_first = refl

pub class_form_full : nullable class_form ≡ false
unfolding class_form
class_form_full = refl

pub interface_form_first : first interface_form ≡ 37 ∷ []
unfolding interface_form
interface_form_first = refl

pub interface_form_full : nullable interface_form ≡ false
unfolding interface_form
interface_form_full = refl

pub annotation_form_first : first annotation_form ≡ 9 ∷ []
unfolding annotation_form
annotation_form_first = refl

pub annotation_form_full : nullable annotation_form ≡ false
unfolding annotation_form
annotation_form_full = refl

pub package_part_first : first package_part ≡ ats ++ 41 ∷ []
unfolding package_part annotations annotation package_form
package_part_first = refl

pub package_part_full : nullable package_part ≡ false
unfolding package_part annotations annotation package_form
package_part_full = refl

pub annotated_package_first : first annotated_package ≡ ats ++ 41 ∷ []
unfolding annotated_package package_part annotations annotation package_form
annotated_package_first = refl

pub constant_first : first constant ≡ ats ++ names
unfolding constant constant_part annotations annotation name
constant_first = refl

pub constant_full : nullable constant ≡ false
unfolding constant constant_part annotations annotation name
constant_full = refl

pub some_constants_first : first some_constants ≡ ats ++ names
unfolding some_constants constant constant_part annotations annotation name
some_constants_first = refl

pub some_constants_full : nullable some_constants ≡ false
unfolding some_constants constant constant_part annotations annotation name
some_constants_full = refl

pub constant_list_first : first constant_list ≡ (ats ++ names) ++ 68 ∷ []
unfolding constant_list some_constants constant constant_part annotations annotation name
constant_list_first = refl

pub constant_list_full : nullable constant_list ≡ false
unfolding constant_list some_constants constant constant_part annotations annotation name
constant_list_full = refl
