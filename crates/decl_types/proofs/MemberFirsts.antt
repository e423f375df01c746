-- The sorts of symbol that begin members and what stands in them.
use Rattle.std.proofs.Common.{◌≡◌, Bool, true, false, [], ◌∷◌, refl}
use Rattle.decl_tree.specs.declared.declaration.TypeKind.{TypeKind}
use Rattle.decl_tree.specs.declared.declaration.TypeKind.TheVariants as kind
use Rattle.decl_grammar.specs.declared.written.MemberRest.{MemberRest}
use Rattle.decl_grammar.specs.declared.written.MemberRest.TheVariants as rest_kind
use Rattle.decl_grammar.specs.Form.{first, nullable, names, ats, first_of, nested_type, primitive_sorts}
use Rattle.decl_grammar.specs.Types.{name, annotation, primitive_type, type_params, optional_modifiers}
use Rattle.decl_grammar.specs.Grammar.{params, method_signature, constructor_signature, element_signature, void_method, primitive_member, named_member, annotated_method, generic, nested_member, unmodified_of, annotation_unmodified, plain_modified, modified_form, member_form}
use Rattle.decl_types.specs.Members.{unmodified_firsts, modified_firsts, member_firsts, plain_firsts}

pub method_signature_first : first method_signature ≡ 61 ∷ []
unfolding method_signature params
method_signature_first = refl

pub constructor_signature_first : first constructor_signature ≡ 61 ∷ []
unfolding constructor_signature params
constructor_signature_first = refl

pub element_signature_first : first element_signature ≡ 61 ∷ []
unfolding element_signature
element_signature_first = refl

pub void_method_first : first void_method ≡ 57 ∷ []
unfolding void_method
void_method_first = refl

pub primitive_member_first : (k : MemberRest) → first (primitive_member k) ≡ primitive_sorts
unfolding primitive_member primitive_type
primitive_member_first k = refl

pub primitive_method_first : first (primitive_member rest_kind.Method) ≡ primitive_sorts
primitive_method_first = primitive_member_first rest_kind.Method

pub primitive_any_first : first (primitive_member rest_kind.Any) ≡ primitive_sorts
primitive_any_first = primitive_member_first rest_kind.Any

pub primitive_element_first : first (primitive_member rest_kind.Element) ≡ primitive_sorts
primitive_element_first = primitive_member_first rest_kind.Element

pub named_member_first : (c : Bool) (k : MemberRest) → first (named_member c k) ≡ names
unfolding named_member name
named_member_first c k = refl

pub annotated_method_first : first annotated_method ≡ ats
unfolding annotated_method annotation
annotated_method_first = refl

pub nested_member_first : first nested_member ≡ first_of nested_type
unfolding nested_member
nested_member_first = refl

pub unmodified_first : (c : Bool) → first (unmodified_of c) ≡ unmodified_firsts
unfolding unmodified_of nested_member void_method primitive_member primitive_type named_member name generic type_params
unmodified_first c = refl

pub class_unmodified_first : first (unmodified_of true) ≡ unmodified_firsts
class_unmodified_first = unmodified_first true

pub plain_modified_first : first (plain_modified (unmodified_of true)) ≡ plain_firsts
unfolding plain_modified
plain_modified_first = refl

pub modified_first : (k : TypeKind) → first (modified_form k) ≡ modified_firsts k
unfolding modified_form plain_modified optional_modifiers unmodified_of annotation_unmodified nested_member void_method primitive_member primitive_type named_member name generic type_params
modified_first kind.Enum = refl
modified_first kind.Class = refl
modified_first kind.AnnotationType = refl
modified_first kind.Interface = refl

pub member_first : (k : TypeKind) → first (member_form k) ≡ member_firsts k
unfolding member_form modified_form plain_modified optional_modifiers unmodified_of annotation_unmodified nested_member void_method primitive_member primitive_type named_member name generic type_params
member_first kind.Enum = refl
member_first kind.Class = refl
member_first kind.AnnotationType = refl
member_first kind.Interface = refl

pub member_full : (k : TypeKind) → nullable (member_form k) ≡ false
unfolding member_form modified_form plain_modified optional_modifiers unmodified_of annotation_unmodified nested_member void_method primitive_member primitive_type named_member name generic type_params
member_full kind.Enum = refl
member_full kind.Class = refl
member_full kind.AnnotationType = refl
member_full kind.Interface = refl
