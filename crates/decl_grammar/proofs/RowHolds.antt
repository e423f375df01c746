-- Each row passes the test.
use Rattle.std.proofs.Common.{◌≡◌, zero, suc, true, refl}
use Rattle.decl_grammar.specs.Form.{Stands, Freedom, After, is_value, alone, paired, listed, defaulted, assigned, strict, conditional, anywhere, between, name_there, greater, dot, colons, colon_arguments, creation, test, test_name, test_arguments, test_end, value_and_rest, expression_rest, value_end}
use Rattle.decl_grammar.specs.Symbols.{numbers}
use Rattle.decl_grammar.specs.Types.{name, named_text, dot_name, name_chain, first_pair, next_pair, pairs_or_value, annotation_arguments, annotation_body, annotation, modifier_annotation, annotations, primitive_type, named_part, next_part, class_type, dim, base_type, class_array, primitive_array, reference, annotated_reference, wildcard_bound, wildcard, type_argument, next_argument, arguments_form, annotated_class, next_bound, bounds, type_param, next_type_param, type_params, optional_params, next_class, classes, modifier, plain_modifier, optional_modifiers, type_modifiers}
use Rattle.decl_grammar.specs.Grammar.{param_modifier, param_modifiers, params_from, next_params, varargs, named_end, param_rest_form, receiver, some_dims, dot_this, with_dims, behind_first_name, first_rest_form, behind_annotations, first_params, params, thrown, body, method_signature, constructor_signature, element_end, element_signature, field_rest, typed_member, constructed_or, void_method, primitive_member, named_member, generic_method, annotated_method, generic_rest, generic, static_rest, plain_modified, nested_member, unmodified_of, annotation_unmodified, modified_form, member_form, superclass, implemented, extended, class_form, interface_form, annotation_form, optional_over, constant_part, constant, some_constants, enum_rest_form, constant_list, constants, enum_members, enum_form, type_rest, import_step, import_rest_form, import_named, import_static, import_form, package_form, modified_type, top_type, ordinary, package_part, annotated_package, semicolon, package_info}
use Rattle.decl_grammar.specs.Expressions.{created_part, next_created_part, created_type, creation_form, created_arguments_form, test_form, test_name_form, reference_form, annotation_over, annotated_form, part_symbols, step, plain_dots, plain_squares, told_steps, two_readings, other_steps, signs_form, value_squares, listed_values, listed_end, array_form, value_of, value_form, paired_end, listed_more, value_or_end, assigned_end, plain_constant, plus_constant, bare_dim, dot_class, array_class, chain_form, literal_constant, named_constant, negated_constant, primitive_class, void_class, plain_form, constant_end, constant_items_form, constant_array, constant_form, kept, constant_alone, initialiser_form}
use Rattle.decl_grammar.specs.Rule.{rule}
use Rattle.decl_grammar.proofs.RowForms.{holds, reached}

-- ---- the test of each row

pub rest-holds : (s : Stands) (w : Freedom) (a : After) → reached a ≡ true → holds (is_value s) (rule (expression_rest s w a)) ≡ true
unfolding numbers name named_text dot_name name_chain first_pair next_pair pairs_or_value annotation_arguments annotation_body annotation modifier_annotation annotations primitive_type named_part next_part class_type dim base_type class_array primitive_array reference annotated_reference wildcard_bound wildcard type_argument next_argument arguments_form annotated_class next_bound bounds type_param next_type_param type_params optional_params next_class classes modifier plain_modifier optional_modifiers type_modifiers created_part next_created_part created_type creation_form created_arguments_form test_form test_name_form reference_form annotation_over annotated_form part_symbols step plain_dots plain_squares told_steps two_readings other_steps signs_form value_squares listed_values listed_end array_form value_of value_form paired_end listed_more value_or_end assigned_end plain_constant plus_constant bare_dim dot_class array_class chain_form literal_constant named_constant negated_constant primitive_class void_class plain_form constant_end constant_items_form constant_array constant_form kept constant_alone initialiser_form param_modifier param_modifiers params_from next_params varargs named_end param_rest_form receiver some_dims dot_this with_dims behind_first_name first_rest_form behind_annotations first_params params thrown body method_signature constructor_signature element_end element_signature field_rest typed_member constructed_or void_method primitive_member named_member generic_method annotated_method generic_rest generic static_rest plain_modified nested_member unmodified_of annotation_unmodified modified_form member_form superclass implemented extended class_form interface_form annotation_form optional_over constant_part constant some_constants enum_rest_form constant_list constants enum_members enum_form type_rest import_step import_rest_form import_named import_static import_form package_form modified_type top_type ordinary package_part annotated_package semicolon package_info
rest-holds alone strict between e = refl
rest-holds alone strict name_there e = refl
rest-holds alone strict greater e = refl
rest-holds alone strict dot e = refl
rest-holds alone strict colons e = refl
rest-holds alone strict colon_arguments e = refl
rest-holds alone (conditional zero) between e = refl
rest-holds alone (conditional zero) name_there e = refl
rest-holds alone (conditional zero) greater e = refl
rest-holds alone (conditional zero) dot e = refl
rest-holds alone (conditional zero) colons e = refl
rest-holds alone (conditional zero) colon_arguments e = refl
rest-holds alone (conditional (suc n)) between e = refl
rest-holds alone (conditional (suc n)) name_there e = refl
rest-holds alone (conditional (suc n)) greater e = refl
rest-holds alone (conditional (suc n)) dot e = refl
rest-holds alone (conditional (suc n)) colons e = refl
rest-holds alone (conditional (suc n)) colon_arguments e = refl
rest-holds alone anywhere between e = refl
rest-holds alone anywhere name_there e = refl
rest-holds alone anywhere greater e = refl
rest-holds alone anywhere dot e = refl
rest-holds alone anywhere colons e = refl
rest-holds alone anywhere colon_arguments e = refl
rest-holds paired strict between e = refl
rest-holds paired strict name_there e = refl
rest-holds paired strict greater e = refl
rest-holds paired strict dot e = refl
rest-holds paired strict colons e = refl
rest-holds paired strict colon_arguments e = refl
rest-holds paired (conditional zero) between e = refl
rest-holds paired (conditional zero) name_there e = refl
rest-holds paired (conditional zero) greater e = refl
rest-holds paired (conditional zero) dot e = refl
rest-holds paired (conditional zero) colons e = refl
rest-holds paired (conditional zero) colon_arguments e = refl
rest-holds paired (conditional (suc n)) between e = refl
rest-holds paired (conditional (suc n)) name_there e = refl
rest-holds paired (conditional (suc n)) greater e = refl
rest-holds paired (conditional (suc n)) dot e = refl
rest-holds paired (conditional (suc n)) colons e = refl
rest-holds paired (conditional (suc n)) colon_arguments e = refl
rest-holds paired anywhere between e = refl
rest-holds paired anywhere name_there e = refl
rest-holds paired anywhere greater e = refl
rest-holds paired anywhere dot e = refl
rest-holds paired anywhere colons e = refl
rest-holds paired anywhere colon_arguments e = refl
rest-holds listed strict between e = refl
rest-holds listed strict name_there e = refl
rest-holds listed strict greater e = refl
rest-holds listed strict dot e = refl
rest-holds listed strict colons e = refl
rest-holds listed strict colon_arguments e = refl
rest-holds listed (conditional zero) between e = refl
rest-holds listed (conditional zero) name_there e = refl
rest-holds listed (conditional zero) greater e = refl
rest-holds listed (conditional zero) dot e = refl
rest-holds listed (conditional zero) colons e = refl
rest-holds listed (conditional zero) colon_arguments e = refl
rest-holds listed (conditional (suc n)) between e = refl
rest-holds listed (conditional (suc n)) name_there e = refl
rest-holds listed (conditional (suc n)) greater e = refl
rest-holds listed (conditional (suc n)) dot e = refl
rest-holds listed (conditional (suc n)) colons e = refl
rest-holds listed (conditional (suc n)) colon_arguments e = refl
rest-holds listed anywhere between e = refl
rest-holds listed anywhere name_there e = refl
rest-holds listed anywhere greater e = refl
rest-holds listed anywhere dot e = refl
rest-holds listed anywhere colons e = refl
rest-holds listed anywhere colon_arguments e = refl
rest-holds defaulted strict between e = refl
rest-holds defaulted strict name_there e = refl
rest-holds defaulted strict greater e = refl
rest-holds defaulted strict dot e = refl
rest-holds defaulted strict colons e = refl
rest-holds defaulted strict colon_arguments e = refl
rest-holds defaulted (conditional zero) between e = refl
rest-holds defaulted (conditional zero) name_there e = refl
rest-holds defaulted (conditional zero) greater e = refl
rest-holds defaulted (conditional zero) dot e = refl
rest-holds defaulted (conditional zero) colons e = refl
rest-holds defaulted (conditional zero) colon_arguments e = refl
rest-holds defaulted (conditional (suc n)) between e = refl
rest-holds defaulted (conditional (suc n)) name_there e = refl
rest-holds defaulted (conditional (suc n)) greater e = refl
rest-holds defaulted (conditional (suc n)) dot e = refl
rest-holds defaulted (conditional (suc n)) colons e = refl
rest-holds defaulted (conditional (suc n)) colon_arguments e = refl
rest-holds defaulted anywhere between e = refl
rest-holds defaulted anywhere name_there e = refl
rest-holds defaulted anywhere greater e = refl
rest-holds defaulted anywhere dot e = refl
rest-holds defaulted anywhere colons e = refl
rest-holds defaulted anywhere colon_arguments e = refl
rest-holds assigned strict between e = refl
rest-holds assigned strict name_there e = refl
rest-holds assigned strict greater e = refl
rest-holds assigned strict dot e = refl
rest-holds assigned strict colons e = refl
rest-holds assigned strict colon_arguments e = refl
rest-holds assigned (conditional zero) between e = refl
rest-holds assigned (conditional zero) name_there e = refl
rest-holds assigned (conditional zero) greater e = refl
rest-holds assigned (conditional zero) dot e = refl
rest-holds assigned (conditional zero) colons e = refl
rest-holds assigned (conditional zero) colon_arguments e = refl
rest-holds assigned (conditional (suc n)) between e = refl
rest-holds assigned (conditional (suc n)) name_there e = refl
rest-holds assigned (conditional (suc n)) greater e = refl
rest-holds assigned (conditional (suc n)) dot e = refl
rest-holds assigned (conditional (suc n)) colons e = refl
rest-holds assigned (conditional (suc n)) colon_arguments e = refl
rest-holds assigned anywhere between e = refl
rest-holds assigned anywhere name_there e = refl
rest-holds assigned anywhere greater e = refl
rest-holds assigned anywhere dot e = refl
rest-holds assigned anywhere colons e = refl
rest-holds assigned anywhere colon_arguments e = refl
rest-holds s w creation e = absurd cc
rest-holds s w test e = absurd cc
rest-holds s w test_name e = absurd cc
rest-holds s w test_arguments e = absurd cc
rest-holds s w test_end e = absurd cc

pub value-holds : (s : Stands) → holds (is_value s) (rule (value_and_rest s)) ≡ true
unfolding numbers name named_text dot_name name_chain first_pair next_pair pairs_or_value annotation_arguments annotation_body annotation modifier_annotation annotations primitive_type named_part next_part class_type dim base_type class_array primitive_array reference annotated_reference wildcard_bound wildcard type_argument next_argument arguments_form annotated_class next_bound bounds type_param next_type_param type_params optional_params next_class classes modifier plain_modifier optional_modifiers type_modifiers created_part next_created_part created_type creation_form created_arguments_form test_form test_name_form reference_form annotation_over annotated_form part_symbols step plain_dots plain_squares told_steps two_readings other_steps signs_form value_squares listed_values listed_end array_form value_of value_form paired_end listed_more value_or_end assigned_end plain_constant plus_constant bare_dim dot_class array_class chain_form literal_constant named_constant negated_constant primitive_class void_class plain_form constant_end constant_items_form constant_array constant_form kept constant_alone initialiser_form param_modifier param_modifiers params_from next_params varargs named_end param_rest_form receiver some_dims dot_this with_dims behind_first_name first_rest_form behind_annotations first_params params thrown body method_signature constructor_signature element_end element_signature field_rest typed_member constructed_or void_method primitive_member named_member generic_method annotated_method generic_rest generic static_rest plain_modified nested_member unmodified_of annotation_unmodified modified_form member_form superclass implemented extended class_form interface_form annotation_form optional_over constant_part constant some_constants enum_rest_form constant_list constants enum_members enum_form type_rest import_step import_rest_form import_named import_static import_form package_form modified_type top_type ordinary package_part annotated_package semicolon package_info
value-holds alone = refl
value-holds paired = refl
value-holds listed = refl
value-holds defaulted = refl
value-holds assigned = refl

pub closes-row : (s : Stands) → is_value s ≡ true → holds (is_value s) (rule (value_end s)) ≡ true
unfolding numbers name named_text dot_name name_chain first_pair next_pair pairs_or_value annotation_arguments annotation_body annotation modifier_annotation annotations primitive_type named_part next_part class_type dim base_type class_array primitive_array reference annotated_reference wildcard_bound wildcard type_argument next_argument arguments_form annotated_class next_bound bounds type_param next_type_param type_params optional_params next_class classes modifier plain_modifier optional_modifiers type_modifiers created_part next_created_part created_type creation_form created_arguments_form test_form test_name_form reference_form annotation_over annotated_form part_symbols step plain_dots plain_squares told_steps two_readings other_steps signs_form value_squares listed_values listed_end array_form value_of value_form paired_end listed_more value_or_end assigned_end plain_constant plus_constant bare_dim dot_class array_class chain_form literal_constant named_constant negated_constant primitive_class void_class plain_form constant_end constant_items_form constant_array constant_form kept constant_alone initialiser_form param_modifier param_modifiers params_from next_params varargs named_end param_rest_form receiver some_dims dot_this with_dims behind_first_name first_rest_form behind_annotations first_params params thrown body method_signature constructor_signature element_end element_signature field_rest typed_member constructed_or void_method primitive_member named_member generic_method annotated_method generic_rest generic static_rest plain_modified nested_member unmodified_of annotation_unmodified modified_form member_form superclass implemented extended class_form interface_form annotation_form optional_over constant_part constant some_constants enum_rest_form constant_list constants enum_members enum_form type_rest import_step import_rest_form import_named import_static import_form package_form modified_type top_type ordinary package_part annotated_package semicolon package_info
closes-row alone e = refl
closes-row paired e = refl
closes-row listed e = refl
closes-row defaulted e = refl
closes-row assigned e = absurd cc
