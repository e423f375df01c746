-- Forms of which the braces of each phrase stand in pairs.
use Rattle.std.proofs.Common.{◌≡◌, refl, ap}
use Rattle.decl_tree.specs.declared.declaration.TypeKind.{TypeKind}
use Rattle.decl_tree.specs.declared.declaration.TypeKind.TheVariants as kind
use Rattle.decl_grammar.specs.Symbols.{numbers}
use Rattle.decl_grammar.specs.TokenNames as token
use Rattle.decl_grammar.specs.Form.{pair, turn, maybe, many, either}
use Rattle.decl_grammar.specs.Types.{name, named_text, dot_name, name_chain, first_pair, next_pair, pairs_or_value, annotation_arguments, annotation_body, annotation, modifier_annotation, annotations, primitive_type, named_part, next_part, class_type, dim, base_type, class_array, primitive_array, reference, annotated_reference, wildcard_bound, wildcard, type_argument, next_argument, arguments_form, annotated_class, next_bound, bounds, type_param, next_type_param, type_params, optional_params, next_class, classes, modifier, plain_modifier, optional_modifiers, type_modifiers, keyword, silently, type_form, sign, before, behind, name_at}
use Rattle.decl_grammar.specs.Expressions.{created_part, next_created_part, created_type, creation_form, created_arguments_form, test_form, test_name_form, reference_form, annotation_over, annotated_form, part_symbols, step, plain_dots, plain_squares, told_steps, two_readings, other_steps, signs_form, value_squares, listed_values, listed_end, array_form, value_of, value_form, paired_end, listed_more, value_or_end, assigned_end, plain_constant, plus_constant, bare_dim, dot_class, array_class, chain_form, literal_constant, named_constant, negated_constant, primitive_class, void_class, plain_form, constant_end, constant_items_form, constant_array, constant_form, kept, constant_alone, initialiser_form}
use Rattle.decl_grammar.specs.Grammar.{param_modifier, param_modifiers, params_from, next_params, varargs, named_end, param_rest_form, receiver, some_dims, dot_this, with_dims, behind_first_name, first_rest_form, behind_annotations, first_params, params, thrown, body, method_signature, constructor_signature, element_end, element_signature, field_rest, typed_member, constructed_or, void_method, primitive_member, named_member, generic_method, annotated_method, generic_rest, generic, static_rest, plain_modified, nested_member, unmodified_of, annotation_unmodified, modified_form, member_form, superclass, implemented, extended, class_form, interface_form, annotation_form, optional_over, constant_part, constant, some_constants, enum_rest_form, constant_list, constants, enum_members, enum_form, type_rest, import_step, import_rest_form, import_named, import_static, import_form, package_form, modified_type, top_type, ordinary, package_part, annotated_package, semicolon, package_info, primitive_of_dims, joined_lists}
use Rattle.decl_limits.specs.Children.{enum_heading, generic_name}
use Rattle.decl_limits.proofs.Braces.{Effect, level, closing, joined, repeated, effect}

pub record EvenForms : Type 0 where
  pub name_at_even : effect name_at ≡ level
  pub name_even : effect name ≡ level
  pub dims_even : effect (many dim) ≡ level
  pub parts_even : effect (many next_part) ≡ level
  pub primitive_even : effect (turn primitive_of_dims (pair primitive_type (many dim))) ≡ level
  pub annotation_even : effect annotation ≡ level
  pub annotations_even : effect annotations ≡ level
  pub modifiers_even : effect optional_modifiers ≡ level
  pub type_modifiers_even : effect type_modifiers ≡ level
  pub type_param_even : effect type_param ≡ level
  pub optional_params_even : effect optional_params ≡ level
  pub param_modifiers_even : effect param_modifiers ≡ level
  pub param_marks_even : effect (many param_modifier) ≡ level
  pub base_type_even : effect base_type ≡ level
  pub varargs_even : effect varargs ≡ level
  pub named_end_even : effect named_end ≡ level
  pub receiver_even : effect receiver ≡ level
  pub dot_this_even : effect dot_this ≡ level
  pub with_dims_even : effect with_dims ≡ level
  pub thrown_even : effect thrown ≡ level
  pub constant_even : effect constant ≡ level
  pub constants_even : effect constants ≡ level
  pub superclass_even : effect superclass ≡ level
  pub implemented_even : effect implemented ≡ level
  pub extended_even : effect extended ≡ level
  pub class_members_even : effect (member_form kind.Class) ≡ level
  pub interface_members_even : effect (member_form kind.Interface) ≡ level
  pub annotation_members_even : effect (member_form kind.AnnotationType) ≡ level
  pub enum_members_even : effect (member_form kind.Enum) ≡ level
  pub enum_closes : effect (pair constants (before enum_members (sign token.close_brace))) ≡ closing
  pub generic_name_even : effect generic_name ≡ level
  pub enum_heading_even : effect enum_heading ≡ level
  pub behind_params_even : effect (pair annotations (pair (maybe (either (turn silently (keyword token.void)) (turn silently type_form))) name)) ≡ level
  pub ordinary_even : effect ordinary ≡ level

pub even : EvenForms
unfolding numbers name named_text dot_name name_chain first_pair next_pair pairs_or_value annotation_arguments annotation_body annotation modifier_annotation annotations primitive_type named_part next_part class_type dim base_type class_array primitive_array reference annotated_reference wildcard_bound wildcard type_argument next_argument arguments_form annotated_class next_bound bounds type_param next_type_param type_params optional_params next_class classes modifier plain_modifier optional_modifiers type_modifiers created_part next_created_part created_type creation_form created_arguments_form test_form test_name_form reference_form annotation_over annotated_form part_symbols step plain_dots plain_squares told_steps two_readings other_steps signs_form value_squares listed_values listed_end array_form value_of value_form paired_end listed_more value_or_end assigned_end plain_constant plus_constant bare_dim dot_class array_class chain_form literal_constant named_constant negated_constant primitive_class void_class plain_form constant_end constant_items_form constant_array constant_form kept constant_alone initialiser_form param_modifier param_modifiers params_from next_params varargs named_end param_rest_form receiver some_dims dot_this with_dims behind_first_name first_rest_form behind_annotations first_params params thrown body method_signature constructor_signature element_end element_signature field_rest typed_member constructed_or void_method primitive_member named_member generic_method annotated_method generic_rest generic static_rest plain_modified nested_member unmodified_of annotation_unmodified modified_form member_form superclass implemented extended class_form interface_form annotation_form optional_over constant_part constant some_constants enum_rest_form constant_list constants enum_members enum_form type_rest import_step import_rest_form import_named import_static import_form package_form modified_type top_type ordinary package_part annotated_package semicolon package_info type_form enum_heading generic_name
even = record {
  name_at_even = refl;
  name_even = refl;
  dims_even = refl;
  parts_even = refl;
  primitive_even = refl;
  annotation_even = refl;
  annotations_even = refl;
  modifiers_even = refl;
  type_modifiers_even = refl;
  type_param_even = refl;
  optional_params_even = refl;
  param_modifiers_even = refl;
  param_marks_even = refl;
  base_type_even = refl;
  varargs_even = refl;
  named_end_even = refl;
  receiver_even = refl;
  dot_this_even = refl;
  with_dims_even = refl;
  thrown_even = refl;
  constant_even = refl;
  constants_even = refl;
  superclass_even = refl;
  implemented_even = refl;
  extended_even = refl;
  class_members_even = refl;
  interface_members_even = refl;
  annotation_members_even = refl;
  enum_members_even = refl;
  enum_closes = refl;
  generic_name_even = refl;
  enum_heading_even = refl;
  behind_params_even = refl;
  ordinary_even = refl;
}

pub members-even : (k : TypeKind) → effect (member_form k) ≡ level
members-even kind.Class = even.class_members_even
members-even kind.Interface = even.interface_members_even
members-even kind.AnnotationType = even.annotation_members_even
members-even kind.Enum = even.enum_members_even

-- members up to the `}` behind them
pub members-close : (k : TypeKind) → effect (before (turn joined_lists (many (member_form k))) (sign token.close_brace)) ≡ closing
members-close k = ap (λ (e : Effect). joined (repeated e) closing) (members-even k)
