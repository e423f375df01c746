-- A file: its package, its imports and its types, of which one is full.
use Rattle.std.proofs.Common.{◌≡◌, ℕ, zero, suc, ◌*◌, ◌≤◌, true, false, List, [], ◌∷◌, ◌++◌, length, Option, ◌⊎◌, inl, inr, refl, sym, ap, subst, ◌∙◌, append_assoc, arith}
use Rattle.decl_tree.specs.declared.compilation.Import.{Import}
use Rattle.decl_tree.specs.declared.declaration.TypeKind.{TypeKind}
use Rattle.decl_tree.specs.declared.declaration.TypeKind.TheVariants as kind
use Rattle.decl_grammar.specs.declared.symbol.Symbol.{Symbol}
use Rattle.decl_grammar.specs.declared.written.Modifiers.{Modifiers}
use Rattle.decl_grammar.specs.declared.written.NameAt.{NameAt}
use Rattle.decl_grammar.specs.declared.written.TypeAt.{TypeAt}
use Rattle.decl_grammar.specs.Symbols.{numbers}
use Rattle.decl_grammar.specs.Reading.{starts, done}
use Rattle.decl_grammar.specs.Form.{Form, pair, maybe, many, nullable, first, first_of, nested_type}
use Rattle.decl_grammar.specs.Types.{name, named_text, dot_name, name_chain, first_pair, next_pair, pairs_or_value, annotation_arguments, annotation_body, annotation, modifier_annotation, annotations, primitive_type, named_part, next_part, class_type, dim, base_type, class_array, primitive_array, reference, annotated_reference, wildcard_bound, wildcard, type_argument, next_argument, arguments_form, annotated_class, next_bound, bounds, type_param, next_type_param, type_params, optional_params, next_class, classes, modifier, plain_modifier, optional_modifiers, type_modifiers}
use Rattle.decl_grammar.specs.Expressions.{created_part, next_created_part, created_type, creation_form, created_arguments_form, test_form, test_name_form, reference_form, annotation_over, annotated_form, part_symbols, step, plain_dots, plain_squares, told_steps, two_readings, other_steps, signs_form, value_squares, listed_values, listed_end, array_form, value_of, value_form, paired_end, listed_more, value_or_end, assigned_end, plain_constant, plus_constant, bare_dim, dot_class, array_class, chain_form, literal_constant, named_constant, negated_constant, primitive_class, void_class, plain_form, constant_end, constant_items_form, constant_array, constant_form, kept, constant_alone, initialiser_form}
use Rattle.decl_grammar.specs.Grammar.{param_modifier, param_modifiers, params_from, next_params, varargs, named_end, param_rest_form, receiver, some_dims, dot_this, with_dims, behind_first_name, first_rest_form, behind_annotations, first_params, params, thrown, body, method_signature, constructor_signature, element_end, element_signature, field_rest, typed_member, constructed_or, void_method, primitive_member, named_member, generic_method, annotated_method, generic_rest, generic, static_rest, plain_modified, nested_member, unmodified_of, annotation_unmodified, modified_form, member_form, superclass, implemented, extended, class_form, interface_form, annotation_form, optional_over, constant_part, constant, some_constants, enum_rest_form, constant_list, constants, enum_members, enum_form, type_rest, import_step, import_rest_form, import_named, import_static, import_form, package_form, modified_type, top_type, ordinary}
use Rattle.decl_grammar.specs.Rule.{WholeAt, reads}
use Rattle.decl_grammar.proofs.OneToken.{ok, more, disjoint, within, within-has}
use Rattle.decl_grammar.proofs.Heads.{Is-head}
use Rattle.decl_grammar.proofs.Heights.{full-at, heads-at}
use Rattle.decl_grammar.proofs.Rivals.{plain}
use Rattle.decl_grammar.proofs.RuleFair.{fair}
use Rattle.decl_grammar.proofs.Knot.{IsSound, sound-plain}
use Rattle.decl_limits.specs.Children.{Then, IsFull, NextTypeParam, NextConstant, MemberFull, class_heading, interface_heading, annotation_heading, enum_heading, whole_constants, whole_members, open_type, generic_name, TypeFull, IsCrowded}
use Rattle.decl_children.specs.Fronts.{SomeFront}
use Rattle.decl_children.specs.Members.{InType, TypesFull, TypesCrowd}
use Rattle.decl_children.proofs.ParamEnds.{starts-apart}
use Rattle.decl_children.proofs.Phrases.{Phrase}
use Rattle.decl_children.proofs.Thens.{Behind-read, then-goes, then-back}
use Rattle.decl_children.proofs.ThenRows.{HasEnd, One, rows-here, rows-later, rows-cases, pair-out, pair-in}
use Rattle.decl_children.proofs.CommaRows.{item-starts}
use Rattle.decl_children.proofs.ParamOnes.{reads-less}
use Rattle.decl_grammar.proofs.Progress.{done_rest}

-- ---- what begins it

-- what this holds of begins with one of these symbols
abbrev pub BeginsWith : List ℕ → (List Symbol → Type 0) → Type 0
BeginsWith ks p = (us vs : List Symbol) → p us → starts ks (us ++ vs) ≡ true

front-begins : {A : Type 0} (f : Form A) (ks : List ℕ) (p : List Symbol → Type 0) → within (first f) ks ≡ true → BeginsWith ks p → (front back vs : List Symbol) (x : A) → Phrase f front x → p back → starts ks ((front ++ back) ++ vs) ≡ true
front-begins f ks p w begins [] back vs x q holds = begins back vs holds
front-begins f ks p w begins (t ∷ front) back vs x q holds = within-has (first f) ks t.sort w (Is-head (WholeAt q.is.0) (full-at q.is.0) (heads-at q.is.0) f t front x (t ∷ front) refl q.is.1)

pub then-begins : {A : Type 0} (f : Form A) (ks : List ℕ) (p : A → List Symbol → Type 0) → within (first f) ks ≡ true → ((x : A) → BeginsWith ks (p x)) → BeginsWith ks (Then f p)
then-begins f ks p w begins us vs (front, back, x, cut, is, holds) =
    ap (λ (zs : List Symbol). starts ks (zs ++ vs)) cut ∙ front-begins f ks (p x) w (begins x) front back vs x (record { is = is }) holds

phrase-begins : {A : Type 0} (f : Form A) (ks : List ℕ) → within (first f) ks ≡ true → (t : Symbol) (us vs : List Symbol) (x : A) → Phrase f (t ∷ us) x → starts ks ((t ∷ us) ++ vs) ≡ true
phrase-begins f ks w t us vs x q = within-has (first f) ks t.sort w (Is-head (WholeAt q.is.0) (full-at q.is.0) (heads-at q.is.0) f t us x (t ∷ us) refl q.is.1)

-- ---- its forms

package-ok : ok (maybe package_form) ≡ true
unfolding numbers name named_text dot_name name_chain first_pair next_pair pairs_or_value annotation_arguments annotation_body annotation modifier_annotation annotations primitive_type named_part next_part class_type dim base_type class_array primitive_array reference annotated_reference wildcard_bound wildcard type_argument next_argument arguments_form annotated_class next_bound bounds type_param next_type_param type_params optional_params next_class classes modifier plain_modifier optional_modifiers type_modifiers created_part next_created_part created_type creation_form created_arguments_form test_form test_name_form reference_form annotation_over annotated_form part_symbols step plain_dots plain_squares told_steps two_readings other_steps signs_form value_squares listed_values listed_end array_form value_of value_form paired_end listed_more value_or_end assigned_end plain_constant plus_constant bare_dim dot_class array_class chain_form literal_constant named_constant negated_constant primitive_class void_class plain_form constant_end constant_items_form constant_array constant_form kept constant_alone initialiser_form param_modifier param_modifiers params_from next_params varargs named_end param_rest_form receiver some_dims dot_this with_dims behind_first_name first_rest_form behind_annotations first_params params thrown body method_signature constructor_signature element_end element_signature field_rest typed_member constructed_or void_method primitive_member named_member generic_method annotated_method generic_rest generic static_rest plain_modified nested_member unmodified_of annotation_unmodified modified_form member_form superclass implemented extended class_form interface_form annotation_form optional_over constant_part constant some_constants enum_rest_form constant_list constants enum_members enum_form type_rest import_step import_rest_form import_named import_static import_form package_form modified_type top_type ordinary
package-ok = refl

package-plain : plain (maybe package_form) ≡ true
unfolding numbers name named_text dot_name name_chain first_pair next_pair pairs_or_value annotation_arguments annotation_body annotation modifier_annotation annotations primitive_type named_part next_part class_type dim base_type class_array primitive_array reference annotated_reference wildcard_bound wildcard type_argument next_argument arguments_form annotated_class next_bound bounds type_param next_type_param type_params optional_params next_class classes modifier plain_modifier optional_modifiers type_modifiers created_part next_created_part created_type creation_form created_arguments_form test_form test_name_form reference_form annotation_over annotated_form part_symbols step plain_dots plain_squares told_steps two_readings other_steps signs_form value_squares listed_values listed_end array_form value_of value_form paired_end listed_more value_or_end assigned_end plain_constant plus_constant bare_dim dot_class array_class chain_form literal_constant named_constant negated_constant primitive_class void_class plain_form constant_end constant_items_form constant_array constant_form kept constant_alone initialiser_form param_modifier param_modifiers params_from next_params varargs named_end param_rest_form receiver some_dims dot_this with_dims behind_first_name first_rest_form behind_annotations first_params params thrown body method_signature constructor_signature element_end element_signature field_rest typed_member constructed_or void_method primitive_member named_member generic_method annotated_method generic_rest generic static_rest plain_modified nested_member unmodified_of annotation_unmodified modified_form member_form superclass implemented extended class_form interface_form annotation_form optional_over constant_part constant some_constants enum_rest_form constant_list constants enum_members enum_form type_rest import_step import_rest_form import_named import_static import_form package_form modified_type top_type ordinary
package-plain = refl

imports-ok : ok (many import_form) ≡ true
unfolding numbers name named_text dot_name name_chain first_pair next_pair pairs_or_value annotation_arguments annotation_body annotation modifier_annotation annotations primitive_type named_part next_part class_type dim base_type class_array primitive_array reference annotated_reference wildcard_bound wildcard type_argument next_argument arguments_form annotated_class next_bound bounds type_param next_type_param type_params optional_params next_class classes modifier plain_modifier optional_modifiers type_modifiers created_part next_created_part created_type creation_form created_arguments_form test_form test_name_form reference_form annotation_over annotated_form part_symbols step plain_dots plain_squares told_steps two_readings other_steps signs_form value_squares listed_values listed_end array_form value_of value_form paired_end listed_more value_or_end assigned_end plain_constant plus_constant bare_dim dot_class array_class chain_form literal_constant named_constant negated_constant primitive_class void_class plain_form constant_end constant_items_form constant_array constant_form kept constant_alone initialiser_form param_modifier param_modifiers params_from next_params varargs named_end param_rest_form receiver some_dims dot_this with_dims behind_first_name first_rest_form behind_annotations first_params params thrown body method_signature constructor_signature element_end element_signature field_rest typed_member constructed_or void_method primitive_member named_member generic_method annotated_method generic_rest generic static_rest plain_modified nested_member unmodified_of annotation_unmodified modified_form member_form superclass implemented extended class_form interface_form annotation_form optional_over constant_part constant some_constants enum_rest_form constant_list constants enum_members enum_form type_rest import_step import_rest_form import_named import_static import_form package_form modified_type top_type ordinary
imports-ok = refl

imports-plain : plain (many import_form) ≡ true
unfolding numbers name named_text dot_name name_chain first_pair next_pair pairs_or_value annotation_arguments annotation_body annotation modifier_annotation annotations primitive_type named_part next_part class_type dim base_type class_array primitive_array reference annotated_reference wildcard_bound wildcard type_argument next_argument arguments_form annotated_class next_bound bounds type_param next_type_param type_params optional_params next_class classes modifier plain_modifier optional_modifiers type_modifiers created_part next_created_part created_type creation_form created_arguments_form test_form test_name_form reference_form annotation_over annotated_form part_symbols step plain_dots plain_squares told_steps two_readings other_steps signs_form value_squares listed_values listed_end array_form value_of value_form paired_end listed_more value_or_end assigned_end plain_constant plus_constant bare_dim dot_class array_class chain_form literal_constant named_constant negated_constant primitive_class void_class plain_form constant_end constant_items_form constant_array constant_form kept constant_alone initialiser_form param_modifier param_modifiers params_from next_params varargs named_end param_rest_form receiver some_dims dot_this with_dims behind_first_name first_rest_form behind_annotations first_params params thrown body method_signature constructor_signature element_end element_signature field_rest typed_member constructed_or void_method primitive_member named_member generic_method annotated_method generic_rest generic static_rest plain_modified nested_member unmodified_of annotation_unmodified modified_form member_form superclass implemented extended class_form interface_form annotation_form optional_over constant_part constant some_constants enum_rest_form constant_list constants enum_members enum_form type_rest import_step import_rest_form import_named import_static import_form package_form modified_type top_type ordinary
imports-plain = refl

top-ok : ok top_type ≡ true
unfolding numbers name named_text dot_name name_chain first_pair next_pair pairs_or_value annotation_arguments annotation_body annotation modifier_annotation annotations primitive_type named_part next_part class_type dim base_type class_array primitive_array reference annotated_reference wildcard_bound wildcard type_argument next_argument arguments_form annotated_class next_bound bounds type_param next_type_param type_params optional_params next_class classes modifier plain_modifier optional_modifiers type_modifiers created_part next_created_part created_type creation_form created_arguments_form test_form test_name_form reference_form annotation_over annotated_form part_symbols step plain_dots plain_squares told_steps two_readings other_steps signs_form value_squares listed_values listed_end array_form value_of value_form paired_end listed_more value_or_end assigned_end plain_constant plus_constant bare_dim dot_class array_class chain_form literal_constant named_constant negated_constant primitive_class void_class plain_form constant_end constant_items_form constant_array constant_form kept constant_alone initialiser_form param_modifier param_modifiers params_from next_params varargs named_end param_rest_form receiver some_dims dot_this with_dims behind_first_name first_rest_form behind_annotations first_params params thrown body method_signature constructor_signature element_end element_signature field_rest typed_member constructed_or void_method primitive_member named_member generic_method annotated_method generic_rest generic static_rest plain_modified nested_member unmodified_of annotation_unmodified modified_form member_form superclass implemented extended class_form interface_form annotation_form optional_over constant_part constant some_constants enum_rest_form constant_list constants enum_members enum_form type_rest import_step import_rest_form import_named import_static import_form package_form modified_type top_type ordinary
top-ok = refl

top-plain : plain top_type ≡ true
unfolding numbers name named_text dot_name name_chain first_pair next_pair pairs_or_value annotation_arguments annotation_body annotation modifier_annotation annotations primitive_type named_part next_part class_type dim base_type class_array primitive_array reference annotated_reference wildcard_bound wildcard type_argument next_argument arguments_form annotated_class next_bound bounds type_param next_type_param type_params optional_params next_class classes modifier plain_modifier optional_modifiers type_modifiers created_part next_created_part created_type creation_form created_arguments_form test_form test_name_form reference_form annotation_over annotated_form part_symbols step plain_dots plain_squares told_steps two_readings other_steps signs_form value_squares listed_values listed_end array_form value_of value_form paired_end listed_more value_or_end assigned_end plain_constant plus_constant bare_dim dot_class array_class chain_form literal_constant named_constant negated_constant primitive_class void_class plain_form constant_end constant_items_form constant_array constant_form kept constant_alone initialiser_form param_modifier param_modifiers params_from next_params varargs named_end param_rest_form receiver some_dims dot_this with_dims behind_first_name first_rest_form behind_annotations first_params params thrown body method_signature constructor_signature element_end element_signature field_rest typed_member constructed_or void_method primitive_member named_member generic_method annotated_method generic_rest generic static_rest plain_modified nested_member unmodified_of annotation_unmodified modified_form member_form superclass implemented extended class_form interface_form annotation_form optional_over constant_part constant some_constants enum_rest_form constant_list constants enum_members enum_form type_rest import_step import_rest_form import_named import_static import_form package_form modified_type top_type ordinary
top-plain = refl

top-more : more top_type ≡ []
unfolding numbers name named_text dot_name name_chain first_pair next_pair pairs_or_value annotation_arguments annotation_body annotation modifier_annotation annotations primitive_type named_part next_part class_type dim base_type class_array primitive_array reference annotated_reference wildcard_bound wildcard type_argument next_argument arguments_form annotated_class next_bound bounds type_param next_type_param type_params optional_params next_class classes modifier plain_modifier optional_modifiers type_modifiers created_part next_created_part created_type creation_form created_arguments_form test_form test_name_form reference_form annotation_over annotated_form part_symbols step plain_dots plain_squares told_steps two_readings other_steps signs_form value_squares listed_values listed_end array_form value_of value_form paired_end listed_more value_or_end assigned_end plain_constant plus_constant bare_dim dot_class array_class chain_form literal_constant named_constant negated_constant primitive_class void_class plain_form constant_end constant_items_form constant_array constant_form kept constant_alone initialiser_form param_modifier param_modifiers params_from next_params varargs named_end param_rest_form receiver some_dims dot_this with_dims behind_first_name first_rest_form behind_annotations first_params params thrown body method_signature constructor_signature element_end element_signature field_rest typed_member constructed_or void_method primitive_member named_member generic_method annotated_method generic_rest generic static_rest plain_modified nested_member unmodified_of annotation_unmodified modified_form member_form superclass implemented extended class_form interface_form annotation_form optional_over constant_part constant some_constants enum_rest_form constant_list constants enum_members enum_form type_rest import_step import_rest_form import_named import_static import_form package_form modified_type top_type ordinary
top-more = refl

pub top-ends : HasEnd top_type
top-ends = record { sound = sound-plain fair top_type top-ok top-plain; ends = top-more }

-- what a type behind its modifiers, a type with its modifiers or a `;`, and an import begin with
abbrev pub type_words : List ℕ
type_words = first_of nested_type

abbrev top_words : List ℕ
top_words = (67 ∷ first type_modifiers) ++ type_words

abbrev import_words : List ℕ
import_words = 34 ∷ top_words

starts-within : (ks ls : List ℕ) → within ks ls ≡ true → (ts : List Symbol) → starts ks ts ≡ true → starts ls ts ≡ true
starts-within ks ls w [] s = s
starts-within ks ls w (t ∷ ts) s = within-has ks ls t.sort w s

wider : (ks ls : List ℕ) (p : List Symbol → Type 0) → within ks ls ≡ true → BeginsWith ks p → BeginsWith ls p
wider ks ls p w begins us vs holds = starts-within ks ls w (us ++ vs) (begins us vs holds)

-- a form that is never empty begins what stands there
pub then-head : {A : Type 0} (f : Form A) (ks : List ℕ) (p : A → List Symbol → Type 0) → nullable f ≡ false → within (first f) ks ≡ true → BeginsWith ks (Then f p)
then-head f ks p never w us vs (front, back, x, cut, is, holds) =
    ap (λ (zs : List Symbol). starts ks zs) (ap (λ (zs : List Symbol). zs ++ vs) cut ∙ append_assoc front back vs)
    ∙ starts-within (first f) ks w (front ++ (back ++ vs)) (item-starts f never front (back ++ vs) x is)

-- ---- a type that is full

generic-within : within (first generic_name) type_words ≡ true
unfolding name generic_name
generic-within = refl

generic-never : nullable generic_name ≡ false
unfolding name generic_name
generic-never = refl

enum-within : within (first enum_heading) type_words ≡ true
unfolding name enum_heading
enum-within = refl

enum-never : nullable enum_heading ≡ false
unfolding name enum_heading
enum-never = refl

open-within : (k : TypeKind) → within (first (open_type k)) type_words ≡ true
unfolding name open_type class_heading interface_heading annotation_heading enum_heading whole_constants whole_members
open-within kind.Enum = refl
open-within kind.Class = refl
open-within kind.AnnotationType = refl
open-within kind.Interface = refl

open-never : (k : TypeKind) → nullable (open_type k) ≡ false
unfolding name open_type class_heading interface_heading annotation_heading enum_heading whole_constants whole_members
open-never kind.Enum = refl
open-never kind.Class = refl
open-never kind.AnnotationType = refl
open-never kind.Interface = refl

rest-within : within (first type_rest) type_words ≡ true
unfolding name class_form interface_form annotation_form enum_form type_rest
rest-within = refl

rest-never : nullable type_rest ≡ false
unfolding name class_form interface_form annotation_form enum_form type_rest
rest-never = refl

full-begins : (h : ℕ) → BeginsWith type_words (TypeFull h)
unfolding TypeFull
full-begins zero us vs full = absurd full
full-begins (suc h) us vs (inl full) = then-head generic_name type_words (λ (x : Unit {0}) zs. IsFull NextTypeParam 0 zs) generic-never generic-within us vs full
full-begins (suc h) us vs (inr (inl full)) = then-head enum_heading type_words (λ (x : Unit {0}) zs. IsFull NextConstant 0 zs) enum-never enum-within us vs full
full-begins (suc h) us vs (inr (inr (inl full))) = then-head (open_type full.0) type_words (MemberFull (TypeFull h) full.0) (open-never full.0) (open-within full.0) us vs full.1
full-begins (suc h) us vs (inr (inr (inr full))) = starts-within (first type_rest) type_words rest-within (us ++ vs) (item-starts type_rest rest-never us vs full.0 full.1)

pub type-begins : BeginsWith type_words InType
type-begins us vs full = full-begins full.0 us vs full.1

-- ---- types with their modifiers

modifiers-within : within (first type_modifiers) top_words ≡ true
unfolding modifier_annotation modifier type_modifiers
modifiers-within = refl

words-within : within type_words top_words ≡ true
unfolding modifier_annotation modifier type_modifiers
words-within = refl

tops-within : within (first (many top_type)) top_words ≡ true
unfolding modifier_annotation modifier type_modifiers name class_form interface_form annotation_form enum_form type_rest modified_type top_type
tops-within = refl

marked-begins : BeginsWith top_words (Then type_modifiers (λ (m : Modifiers) vs. InType vs))
marked-begins = then-begins type_modifiers top_words (λ (m : Modifiers) vs. InType vs) modifiers-within (λ m. wider type_words top_words InType words-within type-begins)

types-begin : BeginsWith top_words TypesFull
types-begin =
    then-begins (many top_type) top_words (λ (tops : List (Option TypeAt)) us. Then type_modifiers (λ (m : Modifiers) vs. InType vs) us) tops-within (λ tops. marked-begins)

modifiers-ok : ok type_modifiers ≡ true
unfolding numbers name named_text dot_name name_chain first_pair next_pair pairs_or_value annotation_arguments annotation_body modifier_annotation modifier type_modifiers
modifiers-ok = refl

modifiers-plain : plain type_modifiers ≡ true
unfolding numbers name named_text dot_name name_chain first_pair next_pair pairs_or_value annotation_arguments annotation_body modifier_annotation modifier type_modifiers
modifiers-plain = refl

words-apart : disjoint type_words (more type_modifiers) ≡ true
unfolding numbers name named_text dot_name name_chain first_pair next_pair pairs_or_value annotation_arguments annotation_body modifier_annotation modifier type_modifiers
words-apart = refl

pub modifiers-sound : IsSound type_modifiers
modifiers-sound = sound-plain fair type_modifiers modifiers-ok modifiers-plain

-- the modifiers are read, and behind them a type is full
pub marked-goes : (room : ℕ) (ts : List Symbol) → 3 * length ts ≤ room → SomeFront (Then type_modifiers (λ (m : Modifiers) vs. InType vs)) ts → Behind-read room type_modifiers (λ (m : Modifiers) vs. InType vs) ts
marked-goes room ts fits c =
    then-goes room type_modifiers (λ (m : Modifiers) vs. InType vs) ts modifiers-sound (λ m us vs full. starts-apart type_words (more type_modifiers) words-apart (us ++ vs) (type-begins us vs full)) fits c

-- one of two: a type here is full, or a whole one is read here and behind it they are
pub types-cases : (room : ℕ) (ts : List Symbol) → 3 * length ts ≤ room → TypesCrowd ts
    → SomeFront (Then type_modifiers (λ (m : Modifiers) vs. InType vs)) ts ⊎ One room top_type (λ (tops : List (Option TypeAt)) us. Then type_modifiers (λ (m : Modifiers) vs. InType vs) us) ts
types-cases room ts fits c = rows-cases room top_type (λ (tops : List (Option TypeAt)) us. Then type_modifiers (λ (m : Modifiers) vs. InType vs) us) ts top-ends fits c

pub types-here : (ts : List Symbol) → SomeFront (Then type_modifiers (λ (m : Modifiers) vs. InType vs)) ts → TypesCrowd ts
types-here ts c = rows-here top_type (λ (tops : List (Option TypeAt)) us. Then type_modifiers (λ (m : Modifiers) vs. InType vs) us) ts c

pub types-later : (room : ℕ) (ts : List Symbol) (x : Option TypeAt) (rest : List Symbol) → reads room top_type ts ≡ done x rest → TypesCrowd rest → TypesCrowd ts
types-later room ts x rest e c = rows-later room top_type (λ (tops : List (Option TypeAt)) us. Then type_modifiers (λ (m : Modifiers) vs. InType vs) us) ts x rest e c

-- ---- the whole file

abbrev behind_package : Option NameAt → List Symbol → Type 0
behind_package p us = Then (pair (many import_form) (many top_type)) (λ (y : List Import × List (Option TypeAt)) vs. Then type_modifiers (λ (m : Modifiers) ws. InType ws) vs) us

abbrev behind_imports : List Import → List Symbol → Type 0
behind_imports is us = TypesFull us

imports-within : within (first (pair (many import_form) (many top_type))) import_words ≡ true
unfolding modifier_annotation modifier type_modifiers name class_form interface_form annotation_form enum_form type_rest modified_type top_type import_form
imports-within = refl

top-imports : within top_words import_words ≡ true
unfolding modifier_annotation modifier type_modifiers
top-imports = refl

package-begins : (p : Option NameAt) → BeginsWith import_words (behind_package p)
package-begins p =
    then-begins (pair (many import_form) (many top_type)) import_words (λ (y : List Import × List (Option TypeAt)) vs. Then type_modifiers (λ (m : Modifiers) ws. InType ws) vs) imports-within
    (λ y. wider top_words import_words (Then type_modifiers (λ (m : Modifiers) ws. InType ws)) top-imports marked-begins)

package-apart : disjoint import_words (more (maybe package_form)) ≡ true
unfolding modifier_annotation modifier type_modifiers package_form name_chain dot_name name
package-apart = refl

imports-apart : disjoint top_words (more (many import_form)) ≡ true
unfolding modifier_annotation modifier type_modifiers import_form import_named name import_static
imports-apart = refl

-- the package and the imports are read, and behind them types are full
pub record Opened (room : ℕ) (ts : List Symbol) : Type 0 where
  pub home : Option NameAt
  pub imports : List Import
  pub mid : List Symbol
  pub rest : List Symbol
  pub package_read : reads room (maybe package_form) ts ≡ done home mid
  pub imports_read : reads room (many import_form) mid ≡ done imports rest
  pub crowds : TypesCrowd rest

pub crowded-goes : (room : ℕ) (ts : List Symbol) → 3 * length ts ≤ room → IsCrowded ts → Opened room ts
unfolding ordinary
crowded-goes room ts fits c =
    let file = pair-out (maybe package_form) (pair (many import_form) (many top_type)) (λ x us. Then type_modifiers (λ (m : Modifiers) vs. InType vs) us) ts c in
    let one = then-goes room (maybe package_form) behind_package ts (sound-plain fair (maybe package_form) package-ok package-plain)
    (λ p us vs holds. starts-apart import_words (more (maybe package_form)) package-apart (us ++ vs) (package-begins p us vs holds)) fits file in
    let inner = pair-out (many import_form) (many top_type) (λ x us. Then type_modifiers (λ (m : Modifiers) vs. InType vs) us) one.rest one.holds in
    let two = then-goes room (many import_form) behind_imports one.rest (sound-plain fair (many import_form) imports-ok imports-plain)
    (λ i us vs holds. starts-apart top_words (more (many import_form)) imports-apart (us ++ vs) (types-begin us vs holds)) (omega (arith, fits, reads-less (maybe package_form) room ts one.value one.rest one.there)) inner in
    record { home = one.value; imports = two.value; mid = one.rest; rest = two.rest; package_read = one.there; imports_read = two.there; crowds = two.holds }

pub crowded-back : (room : ℕ) (ts mid rest : List Symbol) (p : Option NameAt) (is : List Import) → reads room (maybe package_form) ts ≡ done p mid → reads room (many import_form) mid ≡ done is rest → TypesCrowd rest → IsCrowded ts
unfolding ordinary
crowded-back room ts mid rest p is e d c =
    let inner = pair-in (many import_form) (many top_type) (λ x us. Then type_modifiers (λ (m : Modifiers) vs. InType vs) us) mid (then-back room (many import_form) behind_imports mid is rest d c) in
    pair-in (maybe package_form) (pair (many import_form) (many top_type)) (λ x us. Then type_modifiers (λ (m : Modifiers) vs. InType vs) us) ts (then-back room (maybe package_form) behind_package ts p mid e inner)

-- what is read is one thing
pub opened-as : (room : ℕ) (ts mid rest : List Symbol) (p : Option NameAt) (is : List Import) → reads room (maybe package_form) ts ≡ done p mid → reads room (many import_form) mid ≡ done is rest → Opened room ts → TypesCrowd rest
opened-as room ts mid rest p is e d o =
    let same : o.mid ≡ mid = done_rest o.home p o.mid mid (sym o.package_read ∙ e) in
    let other : o.rest ≡ rest = done_rest o.imports is o.rest rest (sym o.imports_read ∙ (ap (λ (zs : List Symbol). reads room (many import_form) zs) same ∙ d)) in
    subst (λ (zs : List Symbol). TypesCrowd zs) other o.crowds
