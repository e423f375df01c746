-- When an enum is full, and how far it goes, by its heading, its constants and what stands behind them.
use Rattle.std.proofs.Common.{◌≡◌, ℕ, ◌+◌, ◌*◌, ◌<◌, ◌≤◌, true, false, List, [], ◌∷◌, ◌++◌, drop, length, ◌⊎◌, inl, inr, ⊎_elim, refl, sym, ap, subst, ◌∙◌, append_assoc, arith}
use Rattle.std.proofs.lemmas.Bool.{eqb-true}
use Rattle.apt_base.specs.Limits.{max_children}
use Rattle.decl_tree.specs.declared.declaration.TypeKind.{TypeKind}
use Rattle.decl_tree.specs.declared.declaration.TypeKind.TheVariants as kind
use Rattle.decl_grammar.specs.declared.symbol.Symbol.{Symbol}
use Rattle.decl_grammar.specs.declared.written.MemberAt.{MemberAt}
use Rattle.decl_grammar.specs.declared.written.TypeRest.{TypeRest}
use Rattle.decl_grammar.specs.Symbols.{numbers}
use Rattle.decl_grammar.specs.Reading.{has, starts, done}
use Rattle.decl_grammar.specs.Form.{first, nullable}
use Rattle.decl_grammar.specs.Types.{name, named_text, dot_name, name_chain, first_pair, next_pair, pairs_or_value, annotation_arguments, annotation_body, annotation, modifier_annotation, annotations, primitive_type, named_part, next_part, class_type, dim, base_type, class_array, primitive_array, reference, annotated_reference, wildcard_bound, wildcard, type_argument, next_argument, arguments_form, annotated_class, next_bound, bounds, type_param, next_type_param, type_params, optional_params, next_class, classes, modifier, plain_modifier, optional_modifiers, type_modifiers}
use Rattle.decl_grammar.specs.Expressions.{created_part, next_created_part, created_type, creation_form, created_arguments_form, test_form, test_name_form, reference_form, annotation_over, annotated_form, part_symbols, step, plain_dots, plain_squares, told_steps, two_readings, other_steps, signs_form, value_squares, listed_values, listed_end, array_form, value_of, value_form, paired_end, listed_more, value_or_end, assigned_end, plain_constant, plus_constant, bare_dim, dot_class, array_class, chain_form, literal_constant, named_constant, negated_constant, primitive_class, void_class, plain_form, constant_end, constant_items_form, constant_array, constant_form, kept, constant_alone, initialiser_form}
use Rattle.decl_grammar.specs.Grammar.{param_modifier, param_modifiers, params_from, next_params, varargs, named_end, param_rest_form, receiver, some_dims, dot_this, with_dims, behind_first_name, first_rest_form, behind_annotations, first_params, params, thrown, body, method_signature, constructor_signature, element_end, element_signature, field_rest, typed_member, constructed_or, void_method, primitive_member, named_member, generic_method, annotated_method, generic_rest, generic, static_rest, plain_modified, nested_member, unmodified_of, annotation_unmodified, modified_form, member_form, superclass, implemented, extended, class_form, interface_form, annotation_form, optional_over, constant_part, constant, some_constants, enum_rest_form, constant_list, constants, enum_members, enum_form, type_rest}
use Rattle.decl_grammar.specs.Rule.{reads}
use Rattle.decl_grammar.proofs.Progress.{done_rest}
use Rattle.decl_grammar.proofs.OneToken.{ok, more, disjoint, not_both}
use Rattle.decl_grammar.proofs.Rivals.{plain}
use Rattle.decl_grammar.proofs.RuleFair.{fair}
use Rattle.decl_grammar.proofs.Knot.{IsSound, sound-plain}
use Rattle.decl_limits.specs.Children.{declared_children, enum_heading, whole_constants, generic_name}
use Rattle.decl_children.specs.Fronts.{SomeFront, Passes}
use Rattle.decl_children.specs.Members.{TypeCrowds, MembersFull, HeadingCrowds, TooLong, closed_members}
use Rattle.decl_children.specs.TypeWalks.{has_constructor, added_to, TypeEnds, enum_front, enum_tail, ParamsOver, ConstantsOver, EnumOver, EnumEnd}
use Rattle.decl_children.specs.KindWords.{front_word}
use Rattle.decl_crossings.proofs.PhraseReads.{whole-reads, read-phrase}
use Rattle.decl_children.proofs.CommaRows.{item-starts}
use Rattle.decl_children.proofs.Phrases.{Phrase}
use Rattle.decl_children.proofs.ParamEnds.{starts-apart}
use Rattle.decl_children.proofs.Thens.{then-back, values-same}
use Rattle.decl_children.proofs.TypeCases.{TypeCase, in_params, in_constants, in_members, in_added, type-case, case-type}
use Rattle.decl_children.proofs.TypeReads.{heading-ends, heading-read, whole-read}
use Rattle.decl_children.proofs.Passages.{passes-reads}
use Rattle.decl_children.proofs.EnumSplits.{ClosedAt, MembersAt, enum-out, enum-in, tail-out, tail-closed, tail-members, constants-out, constants-in}
use Rattle.decl_children.proofs.KindWalks.{rest-out, rest-in, form-first, form-never, form_of, starts-as, same-kind, heading-start}

front-ok : ok enum_front ≡ true
unfolding numbers name named_text dot_name name_chain first_pair next_pair pairs_or_value annotation_arguments annotation_body annotation modifier_annotation annotations primitive_type named_part next_part class_type dim base_type class_array primitive_array reference annotated_reference wildcard_bound wildcard type_argument next_argument arguments_form annotated_class next_bound bounds type_param next_type_param type_params optional_params next_class classes modifier plain_modifier optional_modifiers type_modifiers created_part next_created_part created_type creation_form created_arguments_form test_form test_name_form reference_form annotation_over annotated_form part_symbols step plain_dots plain_squares told_steps two_readings other_steps signs_form value_squares listed_values listed_end array_form value_of value_form paired_end listed_more value_or_end assigned_end plain_constant plus_constant bare_dim dot_class array_class chain_form literal_constant named_constant negated_constant primitive_class void_class plain_form constant_end constant_items_form constant_array constant_form kept constant_alone initialiser_form param_modifier param_modifiers params_from next_params varargs named_end param_rest_form receiver some_dims dot_this with_dims behind_first_name first_rest_form behind_annotations first_params params thrown body method_signature constructor_signature element_end element_signature field_rest typed_member constructed_or void_method primitive_member named_member generic_method annotated_method generic_rest generic static_rest plain_modified nested_member unmodified_of annotation_unmodified modified_form member_form superclass implemented extended class_form interface_form annotation_form optional_over constant_part constant some_constants enum_rest_form constant_list constants enum_members enum_form type_rest enum_heading generic_name
front-ok = refl

front-plain : plain enum_front ≡ true
unfolding numbers name named_text dot_name name_chain first_pair next_pair pairs_or_value annotation_arguments annotation_body annotation modifier_annotation annotations primitive_type named_part next_part class_type dim base_type class_array primitive_array reference annotated_reference wildcard_bound wildcard type_argument next_argument arguments_form annotated_class next_bound bounds type_param next_type_param type_params optional_params next_class classes modifier plain_modifier optional_modifiers type_modifiers created_part next_created_part created_type creation_form created_arguments_form test_form test_name_form reference_form annotation_over annotated_form part_symbols step plain_dots plain_squares told_steps two_readings other_steps signs_form value_squares listed_values listed_end array_form value_of value_form paired_end listed_more value_or_end assigned_end plain_constant plus_constant bare_dim dot_class array_class chain_form literal_constant named_constant negated_constant primitive_class void_class plain_form constant_end constant_items_form constant_array constant_form kept constant_alone initialiser_form param_modifier param_modifiers params_from next_params varargs named_end param_rest_form receiver some_dims dot_this with_dims behind_first_name first_rest_form behind_annotations first_params params thrown body method_signature constructor_signature element_end element_signature field_rest typed_member constructed_or void_method primitive_member named_member generic_method annotated_method generic_rest generic static_rest plain_modified nested_member unmodified_of annotation_unmodified modified_form member_form superclass implemented extended class_form interface_form annotation_form optional_over constant_part constant some_constants enum_rest_form constant_list constants enum_members enum_form type_rest enum_heading generic_name
front-plain = refl

front-apart : disjoint (67 ∷ 64 ∷ []) (more enum_front) ≡ true
unfolding numbers name named_text dot_name name_chain first_pair next_pair pairs_or_value annotation_arguments annotation_body annotation modifier_annotation annotations primitive_type named_part next_part class_type dim base_type class_array primitive_array reference annotated_reference wildcard_bound wildcard type_argument next_argument arguments_form annotated_class next_bound bounds type_param next_type_param type_params optional_params next_class classes modifier plain_modifier optional_modifiers type_modifiers created_part next_created_part created_type creation_form created_arguments_form test_form test_name_form reference_form annotation_over annotated_form part_symbols step plain_dots plain_squares told_steps two_readings other_steps signs_form value_squares listed_values listed_end array_form value_of value_form paired_end listed_more value_or_end assigned_end plain_constant plus_constant bare_dim dot_class array_class chain_form literal_constant named_constant negated_constant primitive_class void_class plain_form constant_end constant_items_form constant_array constant_form kept constant_alone initialiser_form param_modifier param_modifiers params_from next_params varargs named_end param_rest_form receiver some_dims dot_this with_dims behind_first_name first_rest_form behind_annotations first_params params thrown body method_signature constructor_signature element_end element_signature field_rest typed_member constructed_or void_method primitive_member named_member generic_method annotated_method generic_rest generic static_rest plain_modified nested_member unmodified_of annotation_unmodified modified_form member_form superclass implemented extended class_form interface_form annotation_form optional_over constant_part constant some_constants enum_rest_form constant_list constants enum_members enum_form type_rest enum_heading generic_name
front-apart = refl

pub front-sound : IsSound enum_front
front-sound = sound-plain fair enum_front front-ok front-plain

-- up to a `;` or a `}` the heading and the constants are read
front-reads : (room : ℕ) (ts us rest : List Symbol) (n : ℕ) → 3 * length ts ≤ room → ts ≡ us ++ rest → starts (67 ∷ 64 ∷ []) rest ≡ true → Phrase enum_front us n → reads room enum_front ts ≡ done n rest
front-reads room ts us rest n fits e s p =
    ap (λ (zs : List Symbol). reads room enum_front zs) e
    ∙ whole-reads enum_front front-sound room us rest n (subst (λ (zs : List Symbol). 3 * length zs ≤ room) e fits) (starts-apart (67 ∷ 64 ∷ []) (more enum_front) front-apart rest s) p.is

either-one : (n : ℕ) → has (67 ∷ []) n ≡ true → has (67 ∷ 64 ∷ []) n ≡ true
either-one n h = ap (λ (j : ℕ). has (67 ∷ 64 ∷ []) j) (eqb-true n 67 h)

either-other : (n : ℕ) → has (64 ∷ []) n ≡ true → has (67 ∷ 64 ∷ []) n ≡ true
either-other n h = ap (λ (j : ℕ). has (67 ∷ 64 ∷ []) j) (eqb-true n 64 h)

-- the heading and the constants are read, and behind them this holds
pub record EnumRead (room : ℕ) (ts : List Symbol) (p : ℕ → List Symbol → Type 0) : Type 0 where
  pub count : ℕ
  pub mid : List Symbol
  pub there : reads room enum_front ts ≡ done count mid
  pub holds : p count mid

generic-first : first generic_name ≡ 18 ∷ 37 ∷ []
unfolding name generic_name
generic-first = refl

generic-never : nullable generic_name ≡ false
unfolding name generic_name
generic-never = refl

params-no-enum : (ts : List Symbol) → starts (25 ∷ []) ts ≡ true → ParamsOver ts → ⊥
params-no-enum ts s (us, vs, e, (front, back, x, cut, is, full)) =
    let begun = item-starts generic_name generic-never front (back ++ vs) x is in
    let here : starts (18 ∷ 37 ∷ []) ts ≡ true = ap (λ (zs : List Symbol). starts (18 ∷ 37 ∷ []) zs) (e ∙ (ap (λ (zs : List Symbol). zs ++ vs) cut ∙ append_assoc front back vs)) ∙ (ap (λ (ks : List ℕ). starts ks (front ++ (back ++ vs))) (sym generic-first) ∙ begun) in
    not_both (starts (18 ∷ 37 ∷ []) ts) here (starts-apart (25 ∷ []) (18 ∷ 37 ∷ []) refl ts s)

-- an enum that is whole, by its heading and what stands behind its constants
whole-enum : (room : ℕ) (ts rest : List Symbol) (x : TypeRest) → 3 * length ts ≤ room → starts (25 ∷ []) ts ≡ true → Passes type_rest ts x rest
    → EnumRead room ts (λ n mid. EnumEnd mid rest × (max_children < declared_children x → EnumOver n mid))
whole-enum room ts rest x fits s (us, e, is) =
    let o = rest-out us x (record { is = is }) in
    let j = same-kind o.0 kind.Enum ts (starts-as (form_of o.0) (front_word o.0) (form-first o.0) (form-never o.0) ts us rest x e o.1) s in
    let p = enum-out us x (subst (λ (i : TypeKind). Phrase (form_of i) us x) j o.1) in
    let cut : ts ≡ p.front ++ (p.back ++ rest) = e ∙ (ap (λ (zs : List Symbol). zs ++ rest) p.parts ∙ append_assoc p.front p.back rest) in
    ⊎_elim
    (λ (c : ClosedAt p.back p.members).
    let all : ts ≡ p.front ++ (c.brace ∷ rest) = cut ∙ ap (λ (zs : List Symbol). p.front ++ (zs ++ rest)) c.parts in
    record {
      count = p.count;
      mid = c.brace ∷ rest;
      there = front-reads room ts p.front (c.brace ∷ rest) p.count fits all (either-other c.brace.sort c.is_brace) p.heading;
      holds = (inr (c.is_brace, refl), λ lt. inr (c.is_brace, omega (arith, lt, p.total, ap length c.none, ap (λ (ms : List MemberAt). added_to kind.Enum (has_constructor ms)) c.none)));
    })
    (λ (m : MembersAt p.back p.members).
    let all : ts ≡ p.front ++ (m.semicolon ∷ (m.inner ++ rest)) = cut ∙ ap (λ (zs : List Symbol). p.front ++ (zs ++ rest)) m.parts in
    record {
      count = p.count;
      mid = m.semicolon ∷ (m.inner ++ rest);
      there = front-reads room ts p.front (m.semicolon ∷ (m.inner ++ rest)) p.count fits all (either-one m.semicolon.sort m.is_semicolon) p.heading;
      holds = (inl (m.is_semicolon, (p.members, (m.inner, refl, m.others.is))), λ lt. inl (m.is_semicolon, inr (p.members, rest, (m.inner, refl, m.others.is), omega (arith, lt, p.total))));
    })
    (tail-out p.back p.members p.others)

pub enum-goes : (room : ℕ) (ts : List Symbol) → 3 * length ts ≤ room → starts (25 ∷ []) ts ≡ true → TypeCrowds ts → ConstantsOver ts ⊎ EnumRead room ts EnumOver
enum-goes room ts fits s c = go (type-case ts c)
  where
    at : (j : TypeKind) → j ≡ kind.Enum → HeadingCrowds j ts → EnumRead room ts EnumOver
    at j e h =
        let b = heading-read kind.Enum room ts fits (subst (λ (i : TypeKind). HeadingCrowds i ts) e h) in
        let p = read-phrase whole_constants room ts b.value b.rest b.there in
        let f = constants-out p.0 b.value (record { is = p.2 }) in
        let cut : ts ≡ f.front ++ (f.semicolon ∷ b.rest) = p.1 ∙ (ap (λ (zs : List Symbol). zs ++ b.rest) f.parts ∙ append_assoc f.front (f.semicolon ∷ []) b.rest) in
        record {
          count = b.value;
          mid = f.semicolon ∷ b.rest;
          there = front-reads room ts f.front (f.semicolon ∷ b.rest) b.value fits cut (either-one f.semicolon.sort f.is_semicolon) f.heading;
          holds = inl (f.is_semicolon, inl b.holds);
        }

    added : SomeFront TooLong ts → EnumRead room ts EnumOver
    added t =
        let w = whole-read room ts fits t in
        let r = whole-enum room ts w.1 w.0 fits s (read-phrase type_rest room ts w.0 w.1 w.2) in
        record { count = r.count; mid = r.mid; there = r.there; holds = r.holds.1 w.3 }

    go : TypeCase ts → ConstantsOver ts ⊎ EnumRead room ts EnumOver
    go (in_params p) = absurd (params-no-enum ts s p)
    go (in_constants p) = inl p
    go (in_members j h) = inr (at j (same-kind j kind.Enum ts (heading-start j ts h) s) h)
    go (in_added t) = inr (added t)

pub constants-full : (ts : List Symbol) → ConstantsOver ts → TypeCrowds ts
constants-full ts p = case-type ts (in_constants p)

pub enum-ends : (room : ℕ) (ts rest : List Symbol) → 3 * length ts ≤ room → starts (25 ∷ []) ts ≡ true → TypeEnds ts rest → EnumRead room ts (λ n mid. EnumEnd mid rest)
enum-ends room ts rest fits s (x, p) =
    let r = whole-enum room ts rest x fits s p in
    record { count = r.count; mid = r.mid; there = r.there; holds = r.holds.0 }

-- what is put together behind the constants
enum-joined : (room : ℕ) (ts mid us rest : List Symbol) (n : ℕ) (ms : List MemberAt) → reads room enum_front ts ≡ done n mid → mid ≡ us ++ rest → Phrase enum_tail us ms
    → (x : TypeRest) × Passes type_rest ts x rest × (declared_children x ≡ n + length ms + added_to kind.Enum (has_constructor ms))
enum-joined room ts mid us rest n ms there e q =
    let p = read-phrase enum_front room ts n mid there in
    let j = enum-in p.0 us n ms (record { is = p.2 }) q in
    let whole = rest-in kind.Enum (p.0 ++ us) j.value j.whole in
    (j.value, (p.0 ++ us, p.1 ∙ (ap (λ (zs : List Symbol). p.0 ++ zs) e ∙ sym (append_assoc p.0 us rest)), whole.is), j.total)

brace-joined : (room : ℕ) (ts mid : List Symbol) (n : ℕ) → reads room enum_front ts ≡ done n mid → starts (64 ∷ []) mid ≡ true → (x : TypeRest) × Passes type_rest ts x (drop 1 mid) × (declared_children x ≡ n + added_to kind.Enum false)
brace-joined room ts [] n there b = absurd cc
brace-joined room ts (t ∷ mid) n there b = let j = enum-joined room ts (t ∷ mid) (t ∷ []) mid n [] there refl (tail-closed t b) in (j.0, j.1, omega (arith, j.2))

members-joined : (room : ℕ) (ts mid rest : List Symbol) (n : ℕ) (ms : List MemberAt) → reads room enum_front ts ≡ done n mid → starts (67 ∷ []) mid ≡ true → Passes (closed_members kind.Enum) (drop 1 mid) ms rest
    → (x : TypeRest) × Passes type_rest ts x rest × (declared_children x ≡ n + length ms + added_to kind.Enum (has_constructor ms))
members-joined room ts [] rest n ms there b q = absurd cc
members-joined room ts (t ∷ mid) rest n ms there b (us, e, is) = enum-joined room ts (t ∷ mid) (t ∷ us) rest n ms there (ap (λ (zs : List Symbol). t ∷ zs) e) (tail-members t us ms b (record { is = is }))

heading-joined : (room : ℕ) (ts mid : List Symbol) (n : ℕ) → reads room enum_front ts ≡ done n mid → starts (67 ∷ []) mid ≡ true → Passes whole_constants ts n (drop 1 mid)
heading-joined room ts [] n there b = absurd cc
heading-joined room ts (t ∷ mid) n there b =
    let p = read-phrase enum_front room ts n (t ∷ mid) there in
    let w = constants-in p.0 t n b (record { is = p.2 }) in
    (p.0 ++ t ∷ [], p.1 ∙ sym (append_assoc p.0 (t ∷ []) mid), w.is)

pub enum-back : (room : ℕ) (ts mid : List Symbol) (n : ℕ) → reads room enum_front ts ≡ done n mid → EnumOver n mid → TypeCrowds ts
enum-back room ts mid n there (inl (b, inl crowd)) =
    let h = passes-reads whole_constants (heading-ends kind.Enum) (3 * length ts) ts n (drop 1 mid) (omega arith) (heading-joined room ts mid n there b) in
    case-type ts (in_members kind.Enum (then-back (3 * length ts) whole_constants (λ (j : ℕ) us. MembersFull kind.Enum j us) ts n (drop 1 mid) h crowd))
enum-back room ts mid n there (inl (b, inr (ms, rest, q, lt))) =
    let j = members-joined room ts mid rest n ms there b q in
    case-type ts (in_added (j.1.0, rest, j.1.1, (j.0, j.1.2, omega (arith, lt, j.2))))
enum-back room ts mid n there (inr (b, lt)) =
    let j = brace-joined room ts mid n there b in
    case-type ts (in_added (j.1.0, drop 1 mid, j.1.1, (j.0, j.1.2, omega (arith, lt, j.2))))

pub ends-enum : (room : ℕ) (ts mid rest : List Symbol) (n : ℕ) → reads room enum_front ts ≡ done n mid → EnumEnd mid rest → TypeEnds ts rest
ends-enum room ts mid rest n there (inl (b, (ms, q))) = let j = members-joined room ts mid rest n ms there b q in (j.0, j.1)
ends-enum room ts mid rest n there (inr (b, e)) = let j = brace-joined room ts mid n there b in (j.0, subst (λ (zs : List Symbol). Passes type_rest ts j.0 zs) (sym e) j.1)

-- what is read is one thing
pub enum-as : (room : ℕ) (ts mid : List Symbol) (n : ℕ) (p : ℕ → List Symbol → Type 0) → reads room enum_front ts ≡ done n mid → EnumRead room ts p → p n mid
enum-as room ts mid n p there r =
    let same : done r.count r.mid ≡ done n mid = sym r.there ∙ there in
    subst (λ (zs : List Symbol). p n zs) (done_rest r.count n r.mid mid same) (subst (λ (j : ℕ). p j r.mid) (values-same r.count n r.mid mid same) r.holds)
