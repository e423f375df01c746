-- The two readings in all forms that hold themselves keep to each other.
use Rattle.std.proofs.Common.{◌≡◌, true, [], ◌∷◌, refl}
use Rattle.decl_grammar.specs.Symbols.{numbers, operator}
use Rattle.decl_grammar.specs.TokenNames as token
use Rattle.decl_grammar.specs.Form.{freedom_in, Stands, Freedom, Nest, names, turn, either, nest, alone, paired, listed, defaulted, assigned, anywhere, between, name_there, greater, dot, colons, colon_arguments, creation, test, test_name, test_arguments, test_end, one_of, bracketed, arguments, annotated, created, type_reference, tested, tested_name, tested_dim, type_arguments, created_arguments, array_value, nested_annotation, first_name, constant_value, expression_part, nested_type, modifiers, plain_modifiers, static_word, import_rest, enum_rest, param_rest, first_rest, value_and_rest, expression_rest, initialiser, value_end, constant_items, constant_chain}
use Rattle.decl_grammar.specs.Types.{name, named_text, dot_name, name_chain, first_pair, next_pair, pairs_or_value, annotation_arguments, annotation_body, annotation, modifier_annotation, annotations, primitive_type, named_part, next_part, class_type, dim, base_type, class_array, primitive_array, reference, annotated_reference, wildcard_bound, wildcard, type_argument, next_argument, arguments_form, annotated_class, next_bound, bounds, type_param, next_type_param, type_params, optional_params, next_class, classes, modifier, plain_modifier, optional_modifiers, type_modifiers}
use Rattle.decl_grammar.specs.Expressions.{dot_form, square_form, no_symbols, expression, initialised, kept_alone, created_part, next_created_part, created_type, creation_form, created_arguments_form, test_form, test_name_form, reference_form, annotation_over, annotated_form, part_symbols, step, plain_dots, plain_squares, told_steps, two_readings, other_steps, signs_form, value_squares, listed_values, listed_end, array_form, value_of, value_form, paired_end, listed_more, value_or_end, assigned_end, plain_constant, plus_constant, bare_dim, dot_class, array_class, chain_form, literal_constant, named_constant, negated_constant, primitive_class, void_class, plain_form, constant_end, constant_items_form, constant_array, constant_form, kept, constant_alone, initialiser_form}
use Rattle.decl_grammar.specs.Grammar.{param_modifier, param_modifiers, params_from, next_params, varargs, named_end, param_rest_form, receiver, some_dims, dot_this, with_dims, behind_first_name, first_rest_form, behind_annotations, first_params, params, thrown, body, method_signature, constructor_signature, element_end, element_signature, field_rest, typed_member, constructed_or, void_method, primitive_member, named_member, generic_method, annotated_method, generic_rest, generic, static_rest, plain_modified, nested_member, unmodified_of, annotation_unmodified, modified_form, member_form, superclass, implemented, extended, class_form, interface_form, annotation_form, optional_over, constant_part, constant, some_constants, enum_rest_form, constant_list, constants, enum_members, enum_form, type_rest, import_step, import_rest_form, import_named, import_static, import_form, package_form, modified_type, top_type, ordinary, package_part, annotated_package, semicolon, package_info}
use Rattle.decl_grammar.specs.Rule.{rule}
use Rattle.decl_grammar.proofs.Rivals.{Rivals, Fair, plain, fair-plain}
use Rattle.decl_grammar.proofs.Heights.{Whole, Started, AllFair}
use Rattle.decl_grammar.proofs.TypeRivals.{type-rivals}
use Rattle.decl_grammar.proofs.InitialiserRivals.{initialiser-rivals}

-- a form without two readings
one-reading : (m : Nest) → plain (rule m) ≡ true → Fair Whole Started (rule m)
one-reading m e = fair-plain Whole Started (rule m) e

-- where the two readings behind a name do, and those of an initialiser
all-fair : ((s : Stands) (w : Freedom) → Rivals Whole Started (step s type_reference (freedom_in s w) colons) (step s (one_of (operator token.less_than ∷ [])) (freedom_in s w) between))
    → Rivals Whole Started (turn kept_alone constant_alone) (turn initialised (expression assigned)) → AllFair
unfolding numbers name named_text dot_name name_chain first_pair next_pair pairs_or_value annotation_arguments annotation_body annotation modifier_annotation annotations primitive_type named_part next_part class_type dim base_type class_array primitive_array reference annotated_reference wildcard_bound wildcard type_argument next_argument arguments_form annotated_class next_bound bounds type_param next_type_param type_params optional_params next_class classes modifier plain_modifier optional_modifiers type_modifiers created_part next_created_part created_type creation_form created_arguments_form test_form test_name_form reference_form annotation_over annotated_form part_symbols step plain_dots plain_squares told_steps two_readings other_steps signs_form value_squares listed_values listed_end array_form value_of value_form paired_end listed_more value_or_end assigned_end plain_constant plus_constant bare_dim dot_class array_class chain_form literal_constant named_constant negated_constant primitive_class void_class plain_form constant_end constant_items_form constant_array constant_form kept constant_alone initialiser_form param_modifier param_modifiers params_from next_params varargs named_end param_rest_form receiver some_dims dot_this with_dims behind_first_name first_rest_form behind_annotations first_params params thrown body method_signature constructor_signature element_end element_signature field_rest typed_member constructed_or void_method primitive_member named_member generic_method annotated_method generic_rest generic static_rest plain_modified nested_member unmodified_of annotation_unmodified modified_form member_form superclass implemented extended class_form interface_form annotation_form optional_over constant_part constant some_constants enum_rest_form constant_list constants enum_members enum_form type_rest import_step import_rest_form import_named import_static import_form package_form modified_type top_type ordinary package_part annotated_package semicolon package_info
all-fair types initialisers type_arguments = one-reading type_arguments refl
all-fair types initialisers created_arguments = one-reading created_arguments refl
all-fair types initialisers array_value = one-reading array_value refl
all-fair types initialisers nested_annotation = one-reading nested_annotation refl
all-fair types initialisers first_name = one-reading first_name refl
all-fair types initialisers constant_value = one-reading constant_value refl
all-fair types initialisers nested_type = one-reading nested_type refl
all-fair types initialisers modifiers = one-reading modifiers refl
all-fair types initialisers plain_modifiers = one-reading plain_modifiers refl
all-fair types initialisers static_word = one-reading static_word refl
all-fair types initialisers import_rest = one-reading import_rest refl
all-fair types initialisers enum_rest = one-reading enum_rest refl
all-fair types initialisers param_rest = one-reading param_rest refl
all-fair types initialisers first_rest = one-reading first_rest refl
all-fair types initialisers constant_items = one-reading constant_items refl
all-fair types initialisers constant_chain = one-reading constant_chain refl
all-fair types initialisers (expression_part s (one_of ks)) = one-reading (expression_part s (one_of ks)) refl
all-fair types initialisers (expression_part s (bracketed ks)) = one-reading (expression_part s (bracketed ks)) refl
all-fair types initialisers (expression_part s arguments) = one-reading (expression_part s arguments) refl
all-fair types initialisers (expression_part s annotated) = one-reading (expression_part s annotated) refl
all-fair types initialisers (expression_part s created) = one-reading (expression_part s created) refl
all-fair types initialisers (expression_part s type_reference) = one-reading (expression_part s type_reference) refl
all-fair types initialisers (expression_part s tested) = one-reading (expression_part s tested) refl
all-fair types initialisers (expression_part s tested_name) = one-reading (expression_part s tested_name) refl
all-fair types initialisers (expression_part s tested_dim) = one-reading (expression_part s tested_dim) refl
all-fair types initialisers (value_and_rest alone) = one-reading (value_and_rest alone) refl
all-fair types initialisers (value_and_rest paired) = one-reading (value_and_rest paired) refl
all-fair types initialisers (value_and_rest listed) = one-reading (value_and_rest listed) refl
all-fair types initialisers (value_and_rest defaulted) = one-reading (value_and_rest defaulted) refl
all-fair types initialisers (value_and_rest assigned) = one-reading (value_and_rest assigned) refl
all-fair types initialisers (value_end alone) = one-reading (value_end alone) refl
all-fair types initialisers (value_end paired) = one-reading (value_end paired) refl
all-fair types initialisers (value_end listed) = one-reading (value_end listed) refl
all-fair types initialisers (value_end defaulted) = one-reading (value_end defaulted) refl
all-fair types initialisers (value_end assigned) = one-reading (value_end assigned) refl
all-fair types initialisers (expression_rest s w between) = one-reading (expression_rest s w between) refl
all-fair types initialisers (expression_rest alone w greater) = one-reading (expression_rest alone w greater) refl
all-fair types initialisers (expression_rest paired w greater) = one-reading (expression_rest paired w greater) refl
all-fair types initialisers (expression_rest listed w greater) = one-reading (expression_rest listed w greater) refl
all-fair types initialisers (expression_rest defaulted w greater) = one-reading (expression_rest defaulted w greater) refl
all-fair types initialisers (expression_rest assigned w greater) = one-reading (expression_rest assigned w greater) refl
all-fair types initialisers (expression_rest s w dot) = one-reading (expression_rest s w dot) refl
all-fair types initialisers (expression_rest s w colons) = one-reading (expression_rest s w colons) refl
all-fair types initialisers (expression_rest s w colon_arguments) = one-reading (expression_rest s w colon_arguments) refl
all-fair types initialisers (expression_rest s w creation) = one-reading (expression_rest s w creation) refl
all-fair types initialisers (expression_rest s w test) = one-reading (expression_rest s w test) refl
all-fair types initialisers (expression_rest s w test_name) = one-reading (expression_rest s w test_name) refl
all-fair types initialisers (expression_rest s w test_arguments) = one-reading (expression_rest s w test_arguments) refl
all-fair types initialisers (expression_rest s w test_end) = one-reading (expression_rest s w test_end) refl
all-fair types initialisers (expression_rest alone w name_there) = (
  fair-plain Whole Started (told_steps alone names w name_there) refl,
  (
    (
      (fair-plain Whole Started (step alone type_reference w colons) refl, fair-plain Whole Started (step alone (one_of (operator token.less_than ∷ [])) w between) refl, types alone w),
      fair-plain Whole Started (either (dot_form alone w name_there) (square_form alone w name_there)) refl,
    ),
    fair-plain Whole Started (either (other_steps alone w) (turn no_symbols (nest (value_end alone)))) refl,
  ),
)
all-fair types initialisers (expression_rest paired w name_there) = (
  fair-plain Whole Started (told_steps paired names w name_there) refl,
  (
    (
      (fair-plain Whole Started (step paired type_reference w colons) refl, fair-plain Whole Started (step paired (one_of (operator token.less_than ∷ [])) w between) refl, types paired w),
      fair-plain Whole Started (either (dot_form paired w name_there) (square_form paired w name_there)) refl,
    ),
    fair-plain Whole Started (either (other_steps paired w) (turn no_symbols (nest (value_end paired)))) refl,
  ),
)
all-fair types initialisers (expression_rest listed w name_there) = (
  fair-plain Whole Started (told_steps listed names w name_there) refl,
  (
    (
      (fair-plain Whole Started (step listed type_reference w colons) refl, fair-plain Whole Started (step listed (one_of (operator token.less_than ∷ [])) w between) refl, types listed w),
      fair-plain Whole Started (either (dot_form listed w name_there) (square_form listed w name_there)) refl,
    ),
    fair-plain Whole Started (either (other_steps listed w) (turn no_symbols (nest (value_end listed)))) refl,
  ),
)
all-fair types initialisers (expression_rest defaulted w name_there) = (
  fair-plain Whole Started (told_steps defaulted names w name_there) refl,
  (
    (
      (fair-plain Whole Started (step defaulted type_reference w colons) refl, fair-plain Whole Started (step defaulted (one_of (operator token.less_than ∷ [])) w between) refl, types defaulted w),
      fair-plain Whole Started (either (dot_form defaulted w name_there) (square_form defaulted w name_there)) refl,
    ),
    fair-plain Whole Started (either (other_steps defaulted w) (turn no_symbols (nest (value_end defaulted)))) refl,
  ),
)
all-fair types initialisers (expression_rest assigned w name_there) = (
  fair-plain Whole Started (told_steps assigned names anywhere name_there) refl,
  (
    (
      (fair-plain Whole Started (step assigned type_reference anywhere colons) refl, fair-plain Whole Started (step assigned (one_of (operator token.less_than ∷ [])) anywhere between) refl, types assigned w),
      fair-plain Whole Started (either (dot_form assigned anywhere name_there) (square_form assigned anywhere name_there)) refl,
    ),
    fair-plain Whole Started (either (other_steps assigned anywhere) (turn no_symbols (nest (value_end assigned)))) refl,
  ),
)
all-fair types initialisers initialiser =
    (fair-plain Whole Started (turn kept_alone constant_alone) refl, fair-plain Whole Started (turn initialised (expression assigned)) refl, initialisers)

pub fair : AllFair
fair = all-fair type-rivals initialiser-rivals
