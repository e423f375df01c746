-- The forms that say what child lists stand in a file: of each the next symbol tells how to go on.
use Rattle.std.proofs.Common.{◌≡◌, true, false, List, refl}
use Rattle.decl_tree.specs.declared.declaration.TypeKind.{TypeKind}
use Rattle.decl_tree.specs.declared.declaration.TypeKind.TheVariants as kind
use Rattle.decl_grammar.specs.Symbols.{numbers}
use Rattle.decl_grammar.specs.TokenNames as token
use Rattle.decl_grammar.specs.Form.{Form, many, nullable}
use Rattle.decl_grammar.specs.Types.{name, named_text, dot_name, name_chain, first_pair, next_pair, pairs_or_value, annotation_arguments, annotation_body, annotation, modifier_annotation, annotations, primitive_type, named_part, next_part, class_type, dim, base_type, class_array, primitive_array, reference, annotated_reference, wildcard_bound, wildcard, type_argument, next_argument, arguments_form, annotated_class, next_bound, bounds, type_param, next_type_param, type_params, optional_params, next_class, classes, modifier, plain_modifier, optional_modifiers, type_modifiers, before, sign, type_form}
use Rattle.decl_grammar.specs.Expressions.{created_part, next_created_part, created_type, creation_form, created_arguments_form, test_form, test_name_form, reference_form, annotation_over, annotated_form, part_symbols, step, plain_dots, plain_squares, told_steps, two_readings, other_steps, signs_form, value_squares, listed_values, listed_end, array_form, value_of, value_form, paired_end, listed_more, value_or_end, assigned_end, plain_constant, plus_constant, bare_dim, dot_class, array_class, chain_form, literal_constant, named_constant, negated_constant, primitive_class, void_class, plain_form, constant_end, constant_items_form, constant_array, constant_form, kept, constant_alone, initialiser_form}
use Rattle.decl_grammar.specs.Grammar.{param_modifier, param_modifiers, params_from, next_params, varargs, named_end, param_rest_form, receiver, some_dims, dot_this, with_dims, behind_first_name, first_rest_form, behind_annotations, first_params, params, thrown, body, method_signature, constructor_signature, element_end, element_signature, field_rest, typed_member, constructed_or, void_method, primitive_member, named_member, generic_method, annotated_method, generic_rest, generic, static_rest, plain_modified, nested_member, unmodified_of, annotation_unmodified, modified_form, member_form, superclass, implemented, extended, class_form, interface_form, annotation_form, optional_over, constant_part, constant, some_constants, enum_rest_form, constant_list, constants, enum_members, enum_form, type_rest, import_step, import_rest_form, import_named, import_static, import_form, package_form, modified_type, top_type, ordinary, package_part, annotated_package, semicolon, package_info}
use Rattle.decl_grammar.proofs.Rivals.{plain}
use Rattle.decl_grammar.proofs.OneToken.{ok}
use Rattle.decl_grammar.proofs.RuleFair.{fair}
use Rattle.decl_grammar.proofs.Knot.{IsSound, sound-plain}
use Rattle.decl_limits.specs.Children.{class_heading, interface_heading, annotation_heading, enum_heading, whole_members, whole_constants, open_type, generic_name}
use Rattle.file_answers.proofs.Headings.{method_heading, constructor_heading}

-- items, each with a comma behind it
abbrev pub listed : {A : Type 0} → Form A → Form (List A)
listed item = many (before item (sign token.comma))

-- of a form the next symbol tells how to go on, and it has no two readings of the same symbols
pub record Plain {A : Type 0} (f : Form A) : Type 0 where
  pub tells : ok f ≡ true
  pub once : plain f ≡ true

pub plain-sound : {A : Type 0} (f : Form A) → Plain f → IsSound f
plain-sound f is = sound-plain fair f is.tells is.once

pub record PlainForms : Type 0 where
  pub type_modifiers-plain : Plain type_modifiers
  pub type_rest-plain : Plain type_rest
  pub type_param-plain : Plain type_param
  pub type_param_row-plain : Plain (listed type_param)
  pub params_from-plain : Plain params_from
  pub first_params-plain : Plain first_params
  pub constant-plain : Plain constant
  pub constant_row-plain : Plain (listed constant)
  pub generic_name-plain : Plain generic_name
  pub enum_heading-plain : Plain enum_heading
  pub method_heading-plain : Plain method_heading
  pub constructor_heading-plain : Plain constructor_heading

pub record PlainOf (k : TypeKind) : Type 0 where
  pub open_type-plain : Plain (open_type k)
  pub member_form-plain : Plain (member_form k)
  pub modified_form-plain : Plain (modified_form k)
  -- a type has symbols up to where its members stand
  pub there : nullable (open_type k) ≡ false

pub plain-forms : PlainForms
unfolding numbers name named_text dot_name name_chain first_pair next_pair pairs_or_value annotation_arguments annotation_body annotation modifier_annotation annotations primitive_type named_part next_part class_type dim base_type class_array primitive_array reference annotated_reference wildcard_bound wildcard type_argument next_argument arguments_form annotated_class next_bound bounds type_param next_type_param type_params optional_params next_class classes modifier plain_modifier optional_modifiers type_modifiers created_part next_created_part created_type creation_form created_arguments_form test_form test_name_form reference_form annotation_over annotated_form part_symbols step plain_dots plain_squares told_steps two_readings other_steps signs_form value_squares listed_values listed_end array_form value_of value_form paired_end listed_more value_or_end assigned_end plain_constant plus_constant bare_dim dot_class array_class chain_form literal_constant named_constant negated_constant primitive_class void_class plain_form constant_end constant_items_form constant_array constant_form kept constant_alone initialiser_form param_modifier param_modifiers params_from next_params varargs named_end param_rest_form receiver some_dims dot_this with_dims behind_first_name first_rest_form behind_annotations first_params params thrown body method_signature constructor_signature element_end element_signature field_rest typed_member constructed_or void_method primitive_member named_member generic_method annotated_method generic_rest generic static_rest plain_modified nested_member unmodified_of annotation_unmodified modified_form member_form superclass implemented extended class_form interface_form annotation_form optional_over constant_part constant some_constants enum_rest_form constant_list constants enum_members enum_form type_rest import_step import_rest_form import_named import_static import_form package_form modified_type top_type ordinary package_part annotated_package semicolon package_info type_form class_heading interface_heading annotation_heading enum_heading whole_members whole_constants open_type generic_name method_heading constructor_heading
plain-forms = record { type_modifiers-plain = record { tells = refl; once = refl }; type_rest-plain = record { tells = refl; once = refl }; type_param-plain = record { tells = refl; once = refl }; type_param_row-plain = record { tells = refl; once = refl }; params_from-plain = record { tells = refl; once = refl }; first_params-plain = record { tells = refl; once = refl }; constant-plain = record { tells = refl; once = refl }; constant_row-plain = record { tells = refl; once = refl }; generic_name-plain = record { tells = refl; once = refl }; enum_heading-plain = record { tells = refl; once = refl }; method_heading-plain = record { tells = refl; once = refl }; constructor_heading-plain = record { tells = refl; once = refl } }

pub plain-of : (k : TypeKind) → PlainOf k
unfolding numbers name named_text dot_name name_chain first_pair next_pair pairs_or_value annotation_arguments annotation_body annotation modifier_annotation annotations primitive_type named_part next_part class_type dim base_type class_array primitive_array reference annotated_reference wildcard_bound wildcard type_argument next_argument arguments_form annotated_class next_bound bounds type_param next_type_param type_params optional_params next_class classes modifier plain_modifier optional_modifiers type_modifiers created_part next_created_part created_type creation_form created_arguments_form test_form test_name_form reference_form annotation_over annotated_form part_symbols step plain_dots plain_squares told_steps two_readings other_steps signs_form value_squares listed_values listed_end array_form value_of value_form paired_end listed_more value_or_end assigned_end plain_constant plus_constant bare_dim dot_class array_class chain_form literal_constant named_constant negated_constant primitive_class void_class plain_form constant_end constant_items_form constant_array constant_form kept constant_alone initialiser_form param_modifier param_modifiers params_from next_params varargs named_end param_rest_form receiver some_dims dot_this with_dims behind_first_name first_rest_form behind_annotations first_params params thrown body method_signature constructor_signature element_end element_signature field_rest typed_member constructed_or void_method primitive_member named_member generic_method annotated_method generic_rest generic static_rest plain_modified nested_member unmodified_of annotation_unmodified modified_form member_form superclass implemented extended class_form interface_form annotation_form optional_over constant_part constant some_constants enum_rest_form constant_list constants enum_members enum_form type_rest import_step import_rest_form import_named import_static import_form package_form modified_type top_type ordinary package_part annotated_package semicolon package_info type_form class_heading interface_heading annotation_heading enum_heading whole_members whole_constants open_type generic_name method_heading constructor_heading
plain-of kind.Class = record { open_type-plain = record { tells = refl; once = refl }; member_form-plain = record { tells = refl; once = refl }; modified_form-plain = record { tells = refl; once = refl }; there = refl }
plain-of kind.Interface = record { open_type-plain = record { tells = refl; once = refl }; member_form-plain = record { tells = refl; once = refl }; modified_form-plain = record { tells = refl; once = refl }; there = refl }
plain-of kind.AnnotationType = record { open_type-plain = record { tells = refl; once = refl }; member_form-plain = record { tells = refl; once = refl }; modified_form-plain = record { tells = refl; once = refl }; there = refl }
plain-of kind.Enum = record { open_type-plain = record { tells = refl; once = refl }; member_form-plain = record { tells = refl; once = refl }; modified_form-plain = record { tells = refl; once = refl }; there = refl }
