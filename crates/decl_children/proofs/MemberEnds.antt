-- The members of a type up to its `}`, step by step; and at the `}` no member is full.
use Rattle.std.proofs.Common.{◌≡◌, ℕ, ◌*◌, ◌≤◌, true, false, List, [], ◌∷◌, ◌++◌, drop, length, ◌⊎◌, inl, inr, refl, sym, ap, subst, ◌∙◌, append_assoc, length-append, arith, ⊎_elim}
use Rattle.std.proofs.lemmas.Bool.{eqb-true}
use Rattle.apt_base.specs.Limits.{max_children}
use Rattle.decl_tree.specs.declared.declaration.TypeKind.{TypeKind}
use Rattle.decl_tree.specs.declared.declaration.TypeKind.TheVariants as kind
use Rattle.decl_grammar.specs.declared.symbol.Symbol.{Symbol}
use Rattle.decl_grammar.specs.declared.written.MemberAt.{MemberAt}
use Rattle.decl_grammar.specs.declared.written.Modifiers.{Modifiers}
use Rattle.decl_grammar.specs.Symbols.{numbers, operator}
use Rattle.decl_grammar.specs.TokenNames as token
use Rattle.decl_grammar.specs.Reading.{has, starts, done}
use Rattle.decl_grammar.specs.Form.{many, nullable, first}
use Rattle.decl_grammar.specs.Types.{type_form, name, named_text, dot_name, name_chain, first_pair, next_pair, pairs_or_value, annotation_arguments, annotation_body, annotation, modifier_annotation, annotations, primitive_type, named_part, next_part, class_type, dim, base_type, class_array, primitive_array, reference, annotated_reference, wildcard_bound, wildcard, type_argument, next_argument, arguments_form, annotated_class, next_bound, bounds, type_param, next_type_param, type_params, optional_params, next_class, classes, modifier, plain_modifier, optional_modifiers, type_modifiers, sign}
use Rattle.decl_grammar.specs.Expressions.{created_part, next_created_part, created_type, creation_form, created_arguments_form, test_form, test_name_form, reference_form, annotation_over, annotated_form, part_symbols, step, plain_dots, plain_squares, told_steps, two_readings, other_steps, signs_form, value_squares, listed_values, listed_end, array_form, value_of, value_form, paired_end, listed_more, value_or_end, assigned_end, plain_constant, plus_constant, bare_dim, dot_class, array_class, chain_form, literal_constant, named_constant, negated_constant, primitive_class, void_class, plain_form, constant_end, constant_items_form, constant_array, constant_form, kept, constant_alone, initialiser_form}
use Rattle.decl_grammar.specs.Grammar.{param_modifier, param_modifiers, params_from, next_params, varargs, named_end, param_rest_form, receiver, some_dims, dot_this, with_dims, behind_first_name, first_rest_form, behind_annotations, first_params, params, thrown, body, method_signature, constructor_signature, element_end, element_signature, field_rest, typed_member, constructed_or, void_method, primitive_member, named_member, generic_method, annotated_method, generic_rest, generic, static_rest, plain_modified, nested_member, unmodified_of, annotation_unmodified, modified_form, member_form, joined_lists, no_member, or_block, member_from}
use Rattle.decl_grammar.specs.Rule.{reads}
use Rattle.decl_grammar.proofs.OneToken.{ok, more, not_both, within, within-self, within-has}
use Rattle.decl_grammar.proofs.Rivals.{plain}
use Rattle.decl_grammar.proofs.RuleFair.{fair}
use Rattle.decl_grammar.proofs.Knot.{sound-plain}
use Rattle.decl_limits.specs.Children.{blank, IsFull, NextParam, executable_heading, ExecutableFull}
use Rattle.decl_children.specs.Members.{MemberCrowds, MembersCrowd, InnerFull, closed_members}
use Rattle.decl_crossings.proofs.PhraseReads.{read-phrase}
use Rattle.decl_children.proofs.CommaRows.{item-starts}
use Rattle.decl_children.proofs.Phrases.{Phrase, turned, put-before, row-nil, row-cons, at-left, un-turn, un-before, un-nil, un-cons}
use Rattle.decl_children.proofs.ThenRows.{HasEnd, end-reads}
use Rattle.decl_children.proofs.FileRows.{BeginsWith, then-begins, then-head, type_words, type-begins}
use Rattle.decl_children.proofs.MemberRows.{Later, members-cases, member-reads}
use Rattle.decl_children.proofs.MemberCases.{MemberCase, one_more, by_fields, by_own, by_inner, member-case}

closed-ok : (k : TypeKind) → ok (closed_members k) ≡ true
unfolding numbers name named_text dot_name name_chain first_pair next_pair pairs_or_value annotation_arguments annotation_body annotation modifier_annotation annotations primitive_type named_part next_part class_type dim base_type class_array primitive_array reference annotated_reference wildcard_bound wildcard type_argument next_argument arguments_form annotated_class next_bound bounds type_param next_type_param type_params optional_params next_class classes modifier plain_modifier optional_modifiers type_modifiers created_part next_created_part created_type creation_form created_arguments_form test_form test_name_form reference_form annotation_over annotated_form part_symbols step plain_dots plain_squares told_steps two_readings other_steps signs_form value_squares listed_values listed_end array_form value_of value_form paired_end listed_more value_or_end assigned_end plain_constant plus_constant bare_dim dot_class array_class chain_form literal_constant named_constant negated_constant primitive_class void_class plain_form constant_end constant_items_form constant_array constant_form kept constant_alone initialiser_form param_modifier param_modifiers params_from next_params varargs named_end param_rest_form receiver some_dims dot_this with_dims behind_first_name first_rest_form behind_annotations first_params params thrown body method_signature constructor_signature element_end element_signature field_rest typed_member constructed_or void_method primitive_member named_member generic_method annotated_method generic_rest generic static_rest plain_modified nested_member unmodified_of annotation_unmodified modified_form member_form
closed-ok kind.Enum = refl
closed-ok kind.Class = refl
closed-ok kind.AnnotationType = refl
closed-ok kind.Interface = refl

closed-plain : (k : TypeKind) → plain (closed_members k) ≡ true
unfolding numbers name named_text dot_name name_chain first_pair next_pair pairs_or_value annotation_arguments annotation_body annotation modifier_annotation annotations primitive_type named_part next_part class_type dim base_type class_array primitive_array reference annotated_reference wildcard_bound wildcard type_argument next_argument arguments_form annotated_class next_bound bounds type_param next_type_param type_params optional_params next_class classes modifier plain_modifier optional_modifiers type_modifiers created_part next_created_part created_type creation_form created_arguments_form test_form test_name_form reference_form annotation_over annotated_form part_symbols step plain_dots plain_squares told_steps two_readings other_steps signs_form value_squares listed_values listed_end array_form value_of value_form paired_end listed_more value_or_end assigned_end plain_constant plus_constant bare_dim dot_class array_class chain_form literal_constant named_constant negated_constant primitive_class void_class plain_form constant_end constant_items_form constant_array constant_form kept constant_alone initialiser_form param_modifier param_modifiers params_from next_params varargs named_end param_rest_form receiver some_dims dot_this with_dims behind_first_name first_rest_form behind_annotations first_params params thrown body method_signature constructor_signature element_end element_signature field_rest typed_member constructed_or void_method primitive_member named_member generic_method annotated_method generic_rest generic static_rest plain_modified nested_member unmodified_of annotation_unmodified modified_form member_form
closed-plain kind.Enum = refl
closed-plain kind.Class = refl
closed-plain kind.AnnotationType = refl
closed-plain kind.Interface = refl

closed-more : (k : TypeKind) → more (closed_members k) ≡ []
unfolding numbers name named_text dot_name name_chain first_pair next_pair pairs_or_value annotation_arguments annotation_body annotation modifier_annotation annotations primitive_type named_part next_part class_type dim base_type class_array primitive_array reference annotated_reference wildcard_bound wildcard type_argument next_argument arguments_form annotated_class next_bound bounds type_param next_type_param type_params optional_params next_class classes modifier plain_modifier optional_modifiers type_modifiers created_part next_created_part created_type creation_form created_arguments_form test_form test_name_form reference_form annotation_over annotated_form part_symbols step plain_dots plain_squares told_steps two_readings other_steps signs_form value_squares listed_values listed_end array_form value_of value_form paired_end listed_more value_or_end assigned_end plain_constant plus_constant bare_dim dot_class array_class chain_form literal_constant named_constant negated_constant primitive_class void_class plain_form constant_end constant_items_form constant_array constant_form kept constant_alone initialiser_form param_modifier param_modifiers params_from next_params varargs named_end param_rest_form receiver some_dims dot_this with_dims behind_first_name first_rest_form behind_annotations first_params params thrown body method_signature constructor_signature element_end element_signature field_rest typed_member constructed_or void_method primitive_member named_member generic_method annotated_method generic_rest generic static_rest plain_modified nested_member unmodified_of annotation_unmodified modified_form member_form
closed-more kind.Enum = refl
closed-more kind.Class = refl
closed-more kind.AnnotationType = refl
closed-more kind.Interface = refl

pub closed-ends : (k : TypeKind) → HasEnd (closed_members k)
closed-ends k = record { sound = sound-plain fair (closed_members k) (closed-ok k) (closed-plain k); ends = closed-more k }

pub member-never : (k : TypeKind) → nullable (member_form k) ≡ false
unfolding numbers name named_text dot_name name_chain first_pair next_pair pairs_or_value annotation_arguments annotation_body annotation modifier_annotation annotations primitive_type named_part next_part class_type dim base_type class_array primitive_array reference annotated_reference wildcard_bound wildcard type_argument next_argument arguments_form annotated_class next_bound bounds type_param next_type_param type_params optional_params next_class classes modifier plain_modifier optional_modifiers type_modifiers created_part next_created_part created_type creation_form created_arguments_form test_form test_name_form reference_form annotation_over annotated_form part_symbols step plain_dots plain_squares told_steps two_readings other_steps signs_form value_squares listed_values listed_end array_form value_of value_form paired_end listed_more value_or_end assigned_end plain_constant plus_constant bare_dim dot_class array_class chain_form literal_constant named_constant negated_constant primitive_class void_class plain_form constant_end constant_items_form constant_array constant_form kept constant_alone initialiser_form param_modifier param_modifiers params_from next_params varargs named_end param_rest_form receiver some_dims dot_this with_dims behind_first_name first_rest_form behind_annotations first_params params thrown body method_signature constructor_signature element_end element_signature field_rest typed_member constructed_or void_method primitive_member named_member generic_method annotated_method generic_rest generic static_rest plain_modified nested_member unmodified_of annotation_unmodified modified_form member_form
member-never kind.Enum = refl
member-never kind.Class = refl
member-never kind.AnnotationType = refl
member-never kind.Interface = refl

pub member-brace : (k : TypeKind) → has (first (member_form k)) 64 ≡ false
unfolding numbers name named_text dot_name name_chain first_pair next_pair pairs_or_value annotation_arguments annotation_body annotation modifier_annotation annotations primitive_type named_part next_part class_type dim base_type class_array primitive_array reference annotated_reference wildcard_bound wildcard type_argument next_argument arguments_form annotated_class next_bound bounds type_param next_type_param type_params optional_params next_class classes modifier plain_modifier optional_modifiers type_modifiers created_part next_created_part created_type creation_form created_arguments_form test_form test_name_form reference_form annotation_over annotated_form part_symbols step plain_dots plain_squares told_steps two_readings other_steps signs_form value_squares listed_values listed_end array_form value_of value_form paired_end listed_more value_or_end assigned_end plain_constant plus_constant bare_dim dot_class array_class chain_form literal_constant named_constant negated_constant primitive_class void_class plain_form constant_end constant_items_form constant_array constant_form kept constant_alone initialiser_form param_modifier param_modifiers params_from next_params varargs named_end param_rest_form receiver some_dims dot_this with_dims behind_first_name first_rest_form behind_annotations first_params params thrown body method_signature constructor_signature element_end element_signature field_rest typed_member constructed_or void_method primitive_member named_member generic_method annotated_method generic_rest generic static_rest plain_modified nested_member unmodified_of annotation_unmodified modified_form member_form
member-brace kind.Enum = refl
member-brace kind.Class = refl
member-brace kind.AnnotationType = refl
member-brace kind.Interface = refl

modified-brace : (k : TypeKind) → has (first (modified_form k)) 64 ≡ false
unfolding numbers name named_text dot_name name_chain first_pair next_pair pairs_or_value annotation_arguments annotation_body annotation modifier_annotation annotations primitive_type named_part next_part class_type dim base_type class_array primitive_array reference annotated_reference wildcard_bound wildcard type_argument next_argument arguments_form annotated_class next_bound bounds type_param next_type_param type_params optional_params next_class classes modifier plain_modifier optional_modifiers type_modifiers created_part next_created_part created_type creation_form created_arguments_form test_form test_name_form reference_form annotation_over annotated_form part_symbols step plain_dots plain_squares told_steps two_readings other_steps signs_form value_squares listed_values listed_end array_form value_of value_form paired_end listed_more value_or_end assigned_end plain_constant plus_constant bare_dim dot_class array_class chain_form literal_constant named_constant negated_constant primitive_class void_class plain_form constant_end constant_items_form constant_array constant_form kept constant_alone initialiser_form param_modifier param_modifiers params_from next_params varargs named_end param_rest_form receiver some_dims dot_this with_dims behind_first_name first_rest_form behind_annotations first_params params thrown body method_signature constructor_signature element_end element_signature field_rest typed_member constructed_or void_method primitive_member named_member generic_method annotated_method generic_rest generic static_rest plain_modified nested_member unmodified_of annotation_unmodified modified_form member_form
modified-brace kind.Enum = refl
modified-brace kind.Class = refl
modified-brace kind.AnnotationType = refl
modified-brace kind.Interface = refl

-- ---- members up to the `}`

pub brace-phrase : (t : Symbol) → has (64 ∷ []) t.sort ≡ true → Phrase (sign token.close_brace) (t ∷ []) t
brace-phrase t s = record { is = (0, (refl, s)) }

pub closed-here : (k : TypeKind) (room : ℕ) (ts : List Symbol) → 3 * length ts ≤ room → starts (64 ∷ []) ts ≡ true → reads room (closed_members k) ts ≡ done [] (drop 1 ts)
closed-here k room [] fits s = absurd cc
closed-here k room (t ∷ ts) fits s = end-reads (closed_members k) (closed-ends k) room (t ∷ []) ts [] fits (put-before (turned joined_lists (row-nil (member_form k))) (brace-phrase t s))

pub closed-later : (k : TypeKind) (room : ℕ) (ts mid rest : List Symbol) (ms others : List MemberAt) → 3 * length ts ≤ room → reads room (member_form k) ts ≡ done ms mid → reads room (closed_members k) mid ≡ done others rest
    → reads room (closed_members k) ts ≡ done (ms ++ others) rest
closed-later k room ts mid rest ms others fits e d =
    let p = read-phrase (member_form k) room ts ms mid e in
    let q = read-phrase (closed_members k) room mid others rest d in
    let one : Phrase (member_form k) p.0 ms = record { is = p.2 } in
    let two : Phrase (closed_members k) q.0 others = record { is = q.2 } in
    let b = un-before two in
    let t = un-turn b.first in
    let all = put-before (turned joined_lists (row-cons one t.whole)) b.second in
    let cut : p.0 ++ q.0 ≡ (p.0 ++ b.front) ++ b.back = ap (λ (zs : List Symbol). p.0 ++ zs) b.parts ∙ sym (append_assoc p.0 b.front b.back) in
    let whole : ts ≡ ((p.0 ++ b.front) ++ b.back) ++ rest = p.1 ∙ (ap (λ (zs : List Symbol). p.0 ++ zs) q.1 ∙ (sym (append_assoc p.0 q.0 rest) ∙ ap (λ (zs : List Symbol). zs ++ rest) cut)) in
    ap (λ (zs : List Symbol). reads room (closed_members k) zs) whole
    ∙ (end-reads (closed_members k) (closed-ends k) room ((p.0 ++ b.front) ++ b.back) rest (joined_lists (ms ∷ t.value)) (subst (λ (zs : List Symbol). 3 * length zs ≤ room) whole fits) all
    ∙ ap (λ (xs : List MemberAt). done (ms ++ xs) rest) (sym t.is_value))

-- a whole member first, and the others up to the `}`
pub record NextMember (k : TypeKind) (room : ℕ) (ts : List Symbol) (all : List MemberAt) (rest : List Symbol) : Type 0 where
  pub items : List MemberAt
  pub others : List MemberAt
  pub mid : List Symbol
  pub first_read : reads room (member_form k) ts ≡ done items mid
  pub others_read : reads room (closed_members k) mid ≡ done others rest
  pub is_all : all ≡ items ++ others

less-behind : (room : ℕ) (us vs : List Symbol) → 3 * length (us ++ vs) ≤ room → 3 * length vs ≤ room
less-behind room us vs le = omega (arith, le, length-append us vs)

pub closed-cases : (k : TypeKind) (room : ℕ) (ts : List Symbol) (all : List MemberAt) (rest : List Symbol) → 3 * length ts ≤ room → reads room (closed_members k) ts ≡ done all rest
    → ((starts (64 ∷ []) ts ≡ true) × (all ≡ []) × (rest ≡ drop 1 ts)) ⊎ NextMember k room ts all rest
closed-cases k room ts all rest fits e =
    let p = read-phrase (closed_members k) room ts all rest e in
    let two : Phrase (closed_members k) p.0 all = record { is = p.2 } in
    let b = un-before two in
    let t = un-turn b.first in
    go p.0 p.1 b.front b.back b.value b.parts b.second t.value t.whole t.is_value
  where
    go : (us : List Symbol) → ts ≡ us ++ rest → (front back : List Symbol) (c : Symbol) → us ≡ front ++ back → Phrase (sign token.close_brace) back c → (mss : List (List MemberAt)) → Phrase (many (member_form k)) front mss → all ≡ joined_lists mss
        → ((starts (64 ∷ []) ts ≡ true) × (all ≡ []) × (rest ≡ drop 1 ts)) ⊎ NextMember k room ts all rest
    go us cut front back c parts brace [] row is =
        let here : ts ≡ c ∷ rest = cut ∙ ap (λ (zs : List Symbol). zs ++ rest) (parts ∙ (ap (λ (zs : List Symbol). zs ++ back) (un-nil row) ∙ brace.is.1.0)) in
        inl (ap (λ (zs : List Symbol). starts (64 ∷ []) zs) here ∙ brace.is.1.1, is, sym (ap (λ (zs : List Symbol). drop 1 zs) here))
    go us cut front back c parts brace (ms ∷ mss) row is =
        let r = un-cons row in
        let others = put-before (turned joined_lists r.second) brace in
        let whole : ts ≡ r.front ++ ((r.back ++ back) ++ rest) =
        cut ∙ (ap (λ (zs : List Symbol). zs ++ rest) (parts ∙ (ap (λ (zs : List Symbol). zs ++ back) r.parts ∙ append_assoc r.front r.back back)) ∙ append_assoc r.front (r.back ++ back) rest) in
        let fits_all : 3 * length (r.front ++ ((r.back ++ back) ++ rest)) ≤ room = subst (λ (zs : List Symbol). 3 * length zs ≤ room) whole fits in
        inr (record {
          items = ms;
          others = joined_lists mss;
          mid = (r.back ++ back) ++ rest;
          first_read = ap (λ (zs : List Symbol). reads room (member_form k) zs) whole ∙ member-reads k room r.front ((r.back ++ back) ++ rest) ms fits_all r.first;
          others_read = end-reads (closed_members k) (closed-ends k) room (r.back ++ back) rest (joined_lists mss) (less-behind room r.front ((r.back ++ back) ++ rest) fits_all) others;
          is_all = is;
        })

-- ---- at the `}`

abbrev exec_words : List ℕ
exec_words = first executable_heading

abbrev inner_words : List ℕ
inner_words = first type_modifiers ++ (type_words ++ exec_words)

-- what begins none of these symbols stands at no `}`
pub not-brace : (ks : List ℕ) → has ks 64 ≡ false → (ts : List Symbol) → starts (64 ∷ []) ts ≡ true → starts ks ts ≡ true → ⊥
not-brace ks e [] s b = absurd cc
not-brace ks e (t ∷ ts) s b = not_both (has ks t.sort) b (ap (λ (n : ℕ). has ks n) (eqb-true t.sort 64 s) ∙ e)

exec-never : nullable executable_heading ≡ false
unfolding name executable_heading optional_params annotations
exec-never = refl

exec-less : has exec_words 75 ≡ true
unfolding name annotation annotations primitive_type named_part class_type base_type type_form type_params optional_params executable_heading
exec-less = refl

exec-within : within exec_words inner_words ≡ true
unfolding name annotation annotations primitive_type named_part class_type base_type type_form type_params optional_params modifier_annotation modifier type_modifiers executable_heading
exec-within = refl

type-within : within type_words inner_words ≡ true
unfolding name annotation annotations primitive_type named_part class_type base_type type_form type_params optional_params modifier_annotation modifier type_modifiers executable_heading
type-within = refl

marks-within : within (first type_modifiers) inner_words ≡ true
unfolding name annotation annotations primitive_type named_part class_type base_type type_form type_params optional_params modifier_annotation modifier type_modifiers executable_heading
marks-within = refl

inner-brace : has inner_words 64 ≡ false
unfolding name annotation annotations primitive_type named_part class_type base_type type_form type_params optional_params modifier_annotation modifier type_modifiers executable_heading
inner-brace = refl

starts-within : (ks ls : List ℕ) → within ks ls ≡ true → (ts : List Symbol) → starts ks ts ≡ true → starts ls ts ≡ true
starts-within ks ls w [] s = s
starts-within ks ls w (t ∷ ts) s = within-has ks ls t.sort w s

exec-begins : BeginsWith exec_words ExecutableFull
exec-begins us vs (inl params) = ap (λ (zs : List Symbol). starts exec_words (zs ++ vs)) params.1.parts ∙ (ap (λ (n : ℕ). has exec_words n) params.1.is_opening ∙ exec-less)
exec-begins us vs (inr heading) = then-head executable_heading exec_words (IsFull NextParam) exec-never (within-self exec_words) us vs heading

inner-begins : BeginsWith inner_words InnerFull
inner-begins us vs (inl full) = starts-within type_words inner_words type-within (us ++ vs) (type-begins us vs full)
inner-begins us vs (inr full) = starts-within exec_words inner_words exec-within (us ++ vs) (exec-begins us vs full)

-- a `;` is a member that gives nothing
no-items : (k : TypeKind) (t : Symbol) (ms : List MemberAt) → t.sort ≡ operator token.semicolon → Phrase (member_form k) (t ∷ []) ms → ms ≡ []
unfolding member_form
no-items k t ms e p =
    let semi : Phrase (sign token.semicolon) (t ∷ []) t = record { is = (0, (refl, ap (λ (n : ℕ). has (67 ∷ []) n) e)) } in
    let none : Phrase (member_form k) (t ∷ []) [] = at-left (or_block k (member_from (modified_form k))) (turned no_member semi) in
    same ms [] (sym (member-reads k 3 (t ∷ []) [] ms (omega arith) p) ∙ member-reads k 3 (t ∷ []) [] [] (omega arith) none)
  where
    same : (xs ys : List MemberAt) → done xs [] ≡ done ys [] → xs ≡ ys
    same xs ys h = cc

pub brace-member : (k : TypeKind) (n : ℕ) (ts : List Symbol) → n ≤ max_children → starts (64 ∷ []) ts ≡ true → MemberCase k n ts → ⊥
brace-member k n ts le b (one_more m s) = not-brace (first (modified_form k)) (modified-brace k) ts b s
brace-member k n ts le b (by_fields ([], vs, e, (ms, is, lt))) = omega (arith, le, lt, ap length (no-items k (blank (operator token.semicolon)) ms refl (record { is = is })))
brace-member k n ts le b (by_fields (u ∷ us, vs, e, (ms, is, lt))) =
    let begun = item-starts (member_form k) (member-never k) (u ∷ us ++ blank (operator token.semicolon) ∷ []) [] ms is in
    not-brace (first (member_form k)) (member-brace k) ts b (ap (λ (zs : List Symbol). starts (first (member_form k)) zs) e ∙ begun)
brace-member k n ts le b (by_own (us, vs, e, (m, is, lt))) =
    not-brace (first (member_form k)) (member-brace k) ts b (ap (λ (zs : List Symbol). starts (first (member_form k)) zs) e ∙ item-starts (member_form k) (member-never k) us vs (m ∷ []) is)
brace-member k n ts le b (by_inner (us, vs, e, full)) =
    not-brace inner_words inner-brace ts b
    (ap (λ (zs : List Symbol). starts inner_words zs) e ∙ then-begins type_modifiers inner_words (λ (m : Modifiers) zs. InnerFull zs) marks-within (λ m. inner-begins) us vs full)

-- at the `}` the members are not too many, where they are not so far
pub brace-members : (k : TypeKind) (n : ℕ) (ts : List Symbol) → n ≤ max_children → starts (64 ∷ []) ts ≡ true → MembersCrowd k n ts → ⊥
brace-members k n ts le b c =
    ⊎_elim (λ (m : MemberCrowds k n ts). brace-member k n ts le b (member-case k n ts m))
    (λ (l : Later k n (3 * length ts) ts).
    let p = read-phrase (member_form k) (3 * length ts) ts l.items l.rest l.there in
    not-brace (first (member_form k)) (member-brace k) ts b (ap (λ (zs : List Symbol). starts (first (member_form k)) zs) p.1 ∙ item-starts (member_form k) (member-never k) p.0 l.rest l.items p.2))
    (members-cases k n (3 * length ts) ts (omega arith) c)
