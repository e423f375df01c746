-- Whole members, and then the next one: what is full behind whole members, step by step.
use Rattle.std.proofs.Common.{◌≡◌, ℕ, ◌+◌, ◌*◌, ◌≤◌, true, false, List, [], ◌∷◌, ◌++◌, length, ◌⊎◌, inl, inr, refl, sym, ap, subst, ◌∙◌, append_assoc, length-append, arith}
use Rattle.decl_tree.specs.declared.declaration.TypeKind.{TypeKind}
use Rattle.decl_tree.specs.declared.declaration.TypeKind.TheVariants as kind
use Rattle.decl_grammar.specs.declared.symbol.Symbol.{Symbol}
use Rattle.decl_grammar.specs.declared.written.MemberAt.{MemberAt}
use Rattle.decl_grammar.specs.Symbols.{numbers}
use Rattle.decl_grammar.specs.Reading.{starts, done}
use Rattle.decl_grammar.specs.Form.{many}
use Rattle.decl_grammar.specs.Types.{name, named_text, dot_name, name_chain, first_pair, next_pair, pairs_or_value, annotation_arguments, annotation_body, annotation, modifier_annotation, annotations, primitive_type, named_part, next_part, class_type, dim, base_type, class_array, primitive_array, reference, annotated_reference, wildcard_bound, wildcard, type_argument, next_argument, arguments_form, annotated_class, next_bound, bounds, type_param, next_type_param, type_params, optional_params, next_class, classes, modifier, plain_modifier, optional_modifiers, type_modifiers}
use Rattle.decl_grammar.specs.Expressions.{created_part, next_created_part, created_type, creation_form, created_arguments_form, test_form, test_name_form, reference_form, annotation_over, annotated_form, part_symbols, step, plain_dots, plain_squares, told_steps, two_readings, other_steps, signs_form, value_squares, listed_values, listed_end, array_form, value_of, value_form, paired_end, listed_more, value_or_end, assigned_end, plain_constant, plus_constant, bare_dim, dot_class, array_class, chain_form, literal_constant, named_constant, negated_constant, primitive_class, void_class, plain_form, constant_end, constant_items_form, constant_array, constant_form, kept, constant_alone, initialiser_form}
use Rattle.decl_grammar.specs.Grammar.{param_modifier, param_modifiers, params_from, next_params, varargs, named_end, param_rest_form, receiver, some_dims, dot_this, with_dims, behind_first_name, first_rest_form, behind_annotations, first_params, params, thrown, body, method_signature, constructor_signature, element_end, element_signature, field_rest, typed_member, constructed_or, void_method, primitive_member, named_member, generic_method, annotated_method, generic_rest, generic, static_rest, plain_modified, nested_member, unmodified_of, annotation_unmodified, modified_form, member_form, joined_lists}
use Rattle.decl_grammar.specs.Rule.{reads}
use Rattle.decl_grammar.proofs.OneToken.{ok, more}
use Rattle.decl_grammar.proofs.Rivals.{plain}
use Rattle.decl_grammar.proofs.RuleFair.{fair}
use Rattle.decl_grammar.proofs.Knot.{IsSound, sound-plain}
use Rattle.decl_limits.specs.Children.{members_there, whole_members, MemberFull}
use Rattle.decl_children.specs.Members.{InType, MemberCrowds, MembersCrowd}
use Rattle.decl_crossings.proofs.PhraseReads.{whole-reads, read-phrase}
use Rattle.decl_children.proofs.Phrases.{Phrase, turned, row-nil, row-cons, un-turn, un-cons, un-nil}

member-ok : (k : TypeKind) → ok (member_form k) ≡ true
unfolding numbers name named_text dot_name name_chain first_pair next_pair pairs_or_value annotation_arguments annotation_body annotation modifier_annotation annotations primitive_type named_part next_part class_type dim base_type class_array primitive_array reference annotated_reference wildcard_bound wildcard type_argument next_argument arguments_form annotated_class next_bound bounds type_param next_type_param type_params optional_params next_class classes modifier plain_modifier optional_modifiers type_modifiers created_part next_created_part created_type creation_form created_arguments_form test_form test_name_form reference_form annotation_over annotated_form part_symbols step plain_dots plain_squares told_steps two_readings other_steps signs_form value_squares listed_values listed_end array_form value_of value_form paired_end listed_more value_or_end assigned_end plain_constant plus_constant bare_dim dot_class array_class chain_form literal_constant named_constant negated_constant primitive_class void_class plain_form constant_end constant_items_form constant_array constant_form kept constant_alone initialiser_form param_modifier param_modifiers params_from next_params varargs named_end param_rest_form receiver some_dims dot_this with_dims behind_first_name first_rest_form behind_annotations first_params params thrown body method_signature constructor_signature element_end element_signature field_rest typed_member constructed_or void_method primitive_member named_member generic_method annotated_method generic_rest generic static_rest plain_modified nested_member unmodified_of annotation_unmodified modified_form member_form
member-ok kind.Enum = refl
member-ok kind.Class = refl
member-ok kind.AnnotationType = refl
member-ok kind.Interface = refl

member-plain : (k : TypeKind) → plain (member_form k) ≡ true
unfolding numbers name named_text dot_name name_chain first_pair next_pair pairs_or_value annotation_arguments annotation_body annotation modifier_annotation annotations primitive_type named_part next_part class_type dim base_type class_array primitive_array reference annotated_reference wildcard_bound wildcard type_argument next_argument arguments_form annotated_class next_bound bounds type_param next_type_param type_params optional_params next_class classes modifier plain_modifier optional_modifiers type_modifiers created_part next_created_part created_type creation_form created_arguments_form test_form test_name_form reference_form annotation_over annotated_form part_symbols step plain_dots plain_squares told_steps two_readings other_steps signs_form value_squares listed_values listed_end array_form value_of value_form paired_end listed_more value_or_end assigned_end plain_constant plus_constant bare_dim dot_class array_class chain_form literal_constant named_constant negated_constant primitive_class void_class plain_form constant_end constant_items_form constant_array constant_form kept constant_alone initialiser_form param_modifier param_modifiers params_from next_params varargs named_end param_rest_form receiver some_dims dot_this with_dims behind_first_name first_rest_form behind_annotations first_params params thrown body method_signature constructor_signature element_end element_signature field_rest typed_member constructed_or void_method primitive_member named_member generic_method annotated_method generic_rest generic static_rest plain_modified nested_member unmodified_of annotation_unmodified modified_form member_form
member-plain kind.Enum = refl
member-plain kind.Class = refl
member-plain kind.AnnotationType = refl
member-plain kind.Interface = refl

-- a member has its end
pub member-more : (k : TypeKind) → more (member_form k) ≡ []
unfolding numbers name named_text dot_name name_chain first_pair next_pair pairs_or_value annotation_arguments annotation_body annotation modifier_annotation annotations primitive_type named_part next_part class_type dim base_type class_array primitive_array reference annotated_reference wildcard_bound wildcard type_argument next_argument arguments_form annotated_class next_bound bounds type_param next_type_param type_params optional_params next_class classes modifier plain_modifier optional_modifiers type_modifiers created_part next_created_part created_type creation_form created_arguments_form test_form test_name_form reference_form annotation_over annotated_form part_symbols step plain_dots plain_squares told_steps two_readings other_steps signs_form value_squares listed_values listed_end array_form value_of value_form paired_end listed_more value_or_end assigned_end plain_constant plus_constant bare_dim dot_class array_class chain_form literal_constant named_constant negated_constant primitive_class void_class plain_form constant_end constant_items_form constant_array constant_form kept constant_alone initialiser_form param_modifier param_modifiers params_from next_params varargs named_end param_rest_form receiver some_dims dot_this with_dims behind_first_name first_rest_form behind_annotations first_params params thrown body method_signature constructor_signature element_end element_signature field_rest typed_member constructed_or void_method primitive_member named_member generic_method annotated_method generic_rest generic static_rest plain_modified nested_member unmodified_of annotation_unmodified modified_form member_form
member-more kind.Enum = refl
member-more kind.Class = refl
member-more kind.AnnotationType = refl
member-more kind.Interface = refl

pub member-sound : (k : TypeKind) → IsSound (member_form k)
member-sound k = sound-plain fair (member_form k) (member-ok k) (member-plain k)

none-starts : (ks : List ℕ) → ks ≡ [] → (ts : List Symbol) → starts ks ts ≡ false
none-starts ks e ts = ap (λ (ls : List ℕ). starts ls ts) e ∙ none ts
  where
    none : (us : List Symbol) → starts [] us ≡ false
    none [] = refl
    none (u ∷ us) = refl

-- a whole member at the front is read
pub member-reads : (k : TypeKind) (room : ℕ) (us ws : List Symbol) (ms : List MemberAt) → 3 * length (us ++ ws) ≤ room → Phrase (member_form k) us ms → reads room (member_form k) (us ++ ws) ≡ done ms ws
member-reads k room us ws ms fits p = whole-reads (member_form k) (member-sound k) room us ws ms fits (none-starts (more (member_form k)) (member-more k) ws) p.is

-- what is full as the next member is full behind no members
pub members-here : (k : TypeKind) (n : ℕ) (ts : List Symbol) → MemberCrowds k n ts → MembersCrowd k n ts
unfolding whole_members
members-here k n ts (us, vs, e, full) =
    let none = turned members_there (row-nil (member_form k)) in
    (us, vs, e, ([], us, 0, refl, none.is, subst (λ (m : ℕ). MemberFull InType k m us) (omega arith) full))

-- behind a whole member, and so before it
pub members-later : (k : TypeKind) (n room : ℕ) (ts rest : List Symbol) (ms : List MemberAt) → reads room (member_form k) ts ≡ done ms rest → MembersCrowd k (n + length ms) rest → MembersCrowd k n ts
unfolding whole_members
members-later k n room ts rest ms e (us, vs, parts, (front, back, m, cut, is, full)) =
    let p = read-phrase (member_form k) room ts ms rest e in
    let one : Phrase (member_form k) p.0 ms = record { is = p.2 } in
    let others : Phrase (whole_members k) front m = record { is = is } in
    let t = un-turn others in
    let all = turned members_there (row-cons one t.whole) in
    let count : (n + length ms) + m ≡ n + length (ms ++ joined_lists t.value) = omega (arith, t.is_value, length-append ms (joined_lists t.value)) in (
      p.0 ++ us,
      vs,
      p.1 ∙ (ap (λ (zs : List Symbol). p.0 ++ zs) parts ∙ sym (append_assoc p.0 us vs)),
      (p.0 ++ front, back, members_there (ms ∷ t.value), ap (λ (zs : List Symbol). p.0 ++ zs) cut ∙ sym (append_assoc p.0 front back), all.is, subst (λ (j : ℕ). MemberFull InType k j back) count full),
    )

-- a member is whole here, and behind it they are too many
pub record Later (k : TypeKind) (n room : ℕ) (ts : List Symbol) : Type 0 where
  pub items : List MemberAt
  pub rest : List Symbol
  pub there : reads room (member_form k) ts ≡ done items rest
  pub crowds : MembersCrowd k (n + length items) rest

-- one of the two it is
pub members-cases : (k : TypeKind) (n room : ℕ) (ts : List Symbol) → 3 * length ts ≤ room → MembersCrowd k n ts → MemberCrowds k n ts ⊎ Later k n room ts
unfolding whole_members
members-cases k n room ts fits (us, vs, e, (front, back, m, cut, is, full)) =
    let there : Phrase (whole_members k) front m = record { is = is } in
    let t = un-turn there in
    go t.value t.whole t.is_value
  where
    go : (mss : List (List MemberAt)) → Phrase (many (member_form k)) front mss → m ≡ members_there mss → MemberCrowds k n ts ⊎ Later k n room ts
    go [] p count =
        let same : us ≡ back = cut ∙ ap (λ (zs : List Symbol). zs ++ back) (un-nil p) in
        inl (back, vs, e ∙ ap (λ (zs : List Symbol). zs ++ vs) same, subst (λ (j : ℕ). MemberFull InType k j back) (omega (arith, count)) full)
    go (ms ∷ mss) p count =
        let r = un-cons p in
        let all : ts ≡ r.front ++ (r.back ++ (back ++ vs)) =
        e ∙ (ap (λ (zs : List Symbol). zs ++ vs) cut ∙ (append_assoc front back vs ∙ (ap (λ (zs : List Symbol). zs ++ (back ++ vs)) r.parts ∙ append_assoc r.front r.back (back ++ vs)))) in
        let read_there = member-reads k room r.front (r.back ++ (back ++ vs)) ms (omega (arith, fits, ap length all)) r.first in
        let others = turned members_there r.second in
        let total : n + m ≡ (n + length ms) + members_there mss = omega (arith, count, length-append ms (joined_lists mss)) in
        inr (record {
          items = ms;
          rest = r.back ++ (back ++ vs);
          there = ap (λ (zs : List Symbol). reads room (member_form k) zs) all ∙ read_there;
          crowds = (r.back ++ back, vs, sym (append_assoc r.back back vs), (r.back, back, members_there mss, refl, others.is, subst (λ (j : ℕ). MemberFull InType k j back) total full));
        })
