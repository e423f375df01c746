-- What the functions of a walk over types answer, from what their calls answered.
use Rattle.std.proofs.Common.{◌≡◌, ◌==◌, ℕ, suc, ◌+◌, ◌*◌, ◌<◌, ◌≤◌, Bool, true, false, ◌||◌, List, [], ◌∷◌, ◌++◌, length, ◌-◌, Result, Ok, ◌⊎◌, inl, inr, refl, sym, ap, subst, ◌∙◌, arith}
use Rattle.std.proofs.lemmas.Bool.{eqb-true}
use Rattle.apt_base.specs.declared.memory.NoMemory.{NoMemory}
use Rattle.apt_base.specs.Limits.{max_children}
use Rattle.decl_tree.specs.declared.declaration.TypeKind.{TypeKind}
use Rattle.decl_tree.specs.declared.declaration.TypeKind.TheVariants as kind
use Rattle.decl_grammar.specs.declared.fault.ReadFault.{ReadFault}
use Rattle.decl_grammar.specs.declared.symbol.Symbol.{Symbol}
use Rattle.decl_grammar.specs.declared.written.Modifiers.{Modifiers}
use Rattle.decl_grammar.specs.declared.written.Unmodified.{Unmodified}
use Rattle.decl_grammar.specs.Symbols.{numbers}
use Rattle.decl_grammar.specs.Reading.{has, starts, done}
use Rattle.decl_grammar.specs.Form.{first_of, nested_type}
use Rattle.decl_grammar.specs.Types.{name, named_text, dot_name, name_chain, first_pair, next_pair, pairs_or_value, annotation_arguments, annotation_body, annotation, modifier_annotation, annotations, primitive_type, named_part, next_part, class_type, dim, base_type, class_array, primitive_array, reference, annotated_reference, wildcard_bound, wildcard, type_argument, next_argument, arguments_form, annotated_class, next_bound, bounds, type_param, next_type_param, type_params, optional_params, next_class, classes, modifier, plain_modifier, optional_modifiers, type_modifiers}
use Rattle.decl_grammar.specs.Expressions.{created_part, next_created_part, created_type, creation_form, created_arguments_form, test_form, test_name_form, reference_form, annotation_over, annotated_form, part_symbols, step, plain_dots, plain_squares, told_steps, two_readings, other_steps, signs_form, value_squares, listed_values, listed_end, array_form, value_of, value_form, paired_end, listed_more, value_or_end, assigned_end, plain_constant, plus_constant, bare_dim, dot_class, array_class, chain_form, literal_constant, named_constant, negated_constant, primitive_class, void_class, plain_form, constant_end, constant_items_form, constant_array, constant_form, kept, constant_alone, initialiser_form}
use Rattle.decl_grammar.specs.Grammar.{param_modifier, param_modifiers, params_from, next_params, varargs, named_end, param_rest_form, receiver, some_dims, dot_this, with_dims, behind_first_name, first_rest_form, behind_annotations, first_params, params, thrown, body, method_signature, constructor_signature, element_end, element_signature, field_rest, typed_member, constructed_or, void_method, primitive_member, named_member, generic_method, annotated_method, generic_rest, generic, static_rest, plain_modified, nested_member, unmodified_of, annotation_unmodified}
use Rattle.decl_grammar.specs.Rule.{reads}
use Rattle.decl_grammar.proofs.Progress.{done_rest}
use Rattle.decl_grammar.proofs.OneToken.{ok, more, not_both}
use Rattle.decl_grammar.proofs.Rivals.{plain}
use Rattle.decl_grammar.proofs.RuleFair.{fair}
use Rattle.decl_grammar.proofs.Knot.{sound-plain}
use Rattle.decl_crossings.specs.Crossings.{FieldCrosses}
use Rattle.decl_limits.specs.Children.{IsFull, NextTypeParam, NextConstant, enum_heading, generic_name}
use Rattle.decl_types.proofs.MemberFirsts.{modified_first}
use Rattle.decl_types.specs.Members.{modified_firsts, member_firsts}
use Rattle.decl_children.specs.Fronts.{Passes, Tells}
use Rattle.decl_children.specs.Walks.{TypeParamsCrowd, ConstantsCrowd}
use Rattle.decl_children.specs.Members.{MemberCrowds}
use Rattle.decl_children.specs.Results.{ExecutableCrowds}
use Rattle.decl_children.specs.TypeWalks.{unmodified_form, nothing_form, ParamsOver, ConstantsOver}
use Rattle.decl_children.specs.Unmodifieds.{own_of, field_front, OwnBehind}
use Rattle.decl_children.specs.WalkSteps.{Decides, OneMore, FieldsOver}
use Rattle.decl_children.specs.declared.walks.Step.TheVariants as step
use Rattle.decl_crossings.proofs.PhraseReads.{read-phrase}
use Rattle.decl_children.proofs.Thens.{then-back, then-as}
use Rattle.decl_children.proofs.ThenRows.{HasEnd}
use Rattle.decl_children.proofs.TypeReads.{params-read, constants-read}
use Rattle.decl_children.proofs.Passages.{passes-reads, passes-value}
use Rattle.decl_children.proofs.FieldReads.{FieldsRead, fields-goes, fields-back}
use Rattle.decl_children.proofs.MemberWalks.{DeclaredTo, in_fields, in_own, member-back}
use Rattle.decl_children.proofs.WalkAnswers.{tells-as}
use Rattle.decl_children.proofs.WalkSteps.{member-not, no-type}

-- ---- type parameters, constants and fields

abbrev InParams : Unit {0} → List Symbol → Type 0
InParams x us = IsFull NextTypeParam 0 us

abbrev InConstants : Unit {0} → List Symbol → Type 0
InConstants x us = IsFull NextConstant 0 us

pub params-none : (room : ℕ) (ts : List Symbol) → 3 * length ts ≤ room → ((x : Unit {0}) (rest : List Symbol) → reads room generic_name ts ≡ done x rest → ⊥) → ParamsOver ts → ⊥
params-none room ts fits none p = let b = params-read room ts fits p in none b.value b.rest b.there

pub params-tell : (room : ℕ) (ts rest : List Symbol) (r : Result Bool NoMemory) → 3 * length ts ≤ room → reads room generic_name ts ≡ done tt rest → Tells (TypeParamsCrowd rest) r → Tells (ParamsOver ts) r
params-tell room ts rest r fits e t =
    tells-as (TypeParamsCrowd rest) (ParamsOver ts) r (λ p. then-back room generic_name InParams ts tt rest e p) (λ p. then-as room generic_name InParams ts tt rest e (params-read room ts fits p)) t

pub constants-none : (room : ℕ) (ts : List Symbol) → 3 * length ts ≤ room → ((x : Unit {0}) (rest : List Symbol) → reads room enum_heading ts ≡ done x rest → ⊥) → ConstantsOver ts → ⊥
constants-none room ts fits none p = let b = constants-read room ts fits p in none b.value b.rest b.there

pub constants-shut : (room : ℕ) (ts rest : List Symbol) → 3 * length ts ≤ room → reads room enum_heading ts ≡ done tt rest → starts (63 ∷ []) rest ≡ false → ConstantsOver ts → ⊥
constants-shut room ts rest fits e s p = go (then-as room enum_heading InConstants ts tt rest e (constants-read room ts fits p))
  where
    go : ConstantsCrowd rest → ⊥
    go (us, vs, cut, full) =
        not_both (starts (63 ∷ []) rest) (ap (λ (zs : List Symbol). starts (63 ∷ []) zs) (cut ∙ ap (λ (zs : List Symbol). zs ++ vs) full.1.parts) ∙ ap (λ (n : ℕ). has (63 ∷ []) n) full.1.is_opening) s

pub constants-tell : (room : ℕ) (ts rest : List Symbol) (r : Result Bool NoMemory) → 3 * length ts ≤ room → reads room enum_heading ts ≡ done tt rest → Tells (ConstantsCrowd rest) r → Tells (ConstantsOver ts) r
constants-tell room ts rest r fits e t =
    tells-as (ConstantsCrowd rest) (ConstantsOver ts) r (λ p. then-back room enum_heading InConstants ts tt rest e p) (λ p. then-as room enum_heading InConstants ts tt rest e (constants-read room ts fits p)) t

pub fields-few : (room n : ℕ) (ts : List Symbol) → max_children ≤ n → FieldsOver room n ts → ⊥
fields-few room n ts le f = omega (arith, le, f.2)

pub fields-none : (room n : ℕ) (ts : List Symbol) → ((x : Unit {0}) (rest : List Symbol) → reads room field_front ts ≡ done x rest → ⊥) → FieldsOver room n ts → ⊥
fields-none room n ts none f = none tt f.1 f.3

pub fields-tell : (room n left : ℕ) (ts rest : List Symbol) (b : Bool) → left + suc n ≡ max_children → reads room field_front ts ≡ done tt rest → Tells {E = ReadFault} (FieldCrosses left rest) (Ok b) → Tells {E = NoMemory} (FieldsOver room n ts) (Ok b)
fields-tell room n left ts rest true e there t = (left, rest, e, there, t)
fields-tell room n left ts rest false e there t =
    λ f. t (subst (λ (j : ℕ). FieldCrosses j rest) (omega (arith, e, f.2)) (subst (λ (zs : List Symbol). FieldCrosses f.0 zs) (done_rest tt tt f.1 rest (sym f.3 ∙ there)) f.4))

-- ---- a member behind its modifiers

unmodified-ok : (k : TypeKind) → ok (unmodified_form k) ≡ true
unfolding numbers name named_text dot_name name_chain first_pair next_pair pairs_or_value annotation_arguments annotation_body annotation modifier_annotation annotations primitive_type named_part next_part class_type dim base_type class_array primitive_array reference annotated_reference wildcard_bound wildcard type_argument next_argument arguments_form annotated_class next_bound bounds type_param next_type_param type_params optional_params next_class classes modifier plain_modifier optional_modifiers type_modifiers created_part next_created_part created_type creation_form created_arguments_form test_form test_name_form reference_form annotation_over annotated_form part_symbols step plain_dots plain_squares told_steps two_readings other_steps signs_form value_squares listed_values listed_end array_form value_of value_form paired_end listed_more value_or_end assigned_end plain_constant plus_constant bare_dim dot_class array_class chain_form literal_constant named_constant negated_constant primitive_class void_class plain_form constant_end constant_items_form constant_array constant_form kept constant_alone initialiser_form param_modifier param_modifiers params_from next_params varargs named_end param_rest_form receiver some_dims dot_this with_dims behind_first_name first_rest_form behind_annotations first_params params thrown body method_signature constructor_signature element_end element_signature field_rest typed_member constructed_or void_method primitive_member named_member generic_method annotated_method generic_rest generic static_rest plain_modified nested_member unmodified_of annotation_unmodified
unmodified-ok kind.Enum = refl
unmodified-ok kind.Class = refl
unmodified-ok kind.AnnotationType = refl
unmodified-ok kind.Interface = refl

unmodified-plain : (k : TypeKind) → plain (unmodified_form k) ≡ true
unfolding numbers name named_text dot_name name_chain first_pair next_pair pairs_or_value annotation_arguments annotation_body annotation modifier_annotation annotations primitive_type named_part next_part class_type dim base_type class_array primitive_array reference annotated_reference wildcard_bound wildcard type_argument next_argument arguments_form annotated_class next_bound bounds type_param next_type_param type_params optional_params next_class classes modifier plain_modifier optional_modifiers type_modifiers created_part next_created_part created_type creation_form created_arguments_form test_form test_name_form reference_form annotation_over annotated_form part_symbols step plain_dots plain_squares told_steps two_readings other_steps signs_form value_squares listed_values listed_end array_form value_of value_form paired_end listed_more value_or_end assigned_end plain_constant plus_constant bare_dim dot_class array_class chain_form literal_constant named_constant negated_constant primitive_class void_class plain_form constant_end constant_items_form constant_array constant_form kept constant_alone initialiser_form param_modifier param_modifiers params_from next_params varargs named_end param_rest_form receiver some_dims dot_this with_dims behind_first_name first_rest_form behind_annotations first_params params thrown body method_signature constructor_signature element_end element_signature field_rest typed_member constructed_or void_method primitive_member named_member generic_method annotated_method generic_rest generic static_rest plain_modified nested_member unmodified_of annotation_unmodified
unmodified-plain kind.Enum = refl
unmodified-plain kind.Class = refl
unmodified-plain kind.AnnotationType = refl
unmodified-plain kind.Interface = refl

unmodified-more : (k : TypeKind) → more (unmodified_form k) ≡ []
unfolding numbers name named_text dot_name name_chain first_pair next_pair pairs_or_value annotation_arguments annotation_body annotation modifier_annotation annotations primitive_type named_part next_part class_type dim base_type class_array primitive_array reference annotated_reference wildcard_bound wildcard type_argument next_argument arguments_form annotated_class next_bound bounds type_param next_type_param type_params optional_params next_class classes modifier plain_modifier optional_modifiers type_modifiers created_part next_created_part created_type creation_form created_arguments_form test_form test_name_form reference_form annotation_over annotated_form part_symbols step plain_dots plain_squares told_steps two_readings other_steps signs_form value_squares listed_values listed_end array_form value_of value_form paired_end listed_more value_or_end assigned_end plain_constant plus_constant bare_dim dot_class array_class chain_form literal_constant named_constant negated_constant primitive_class void_class plain_form constant_end constant_items_form constant_array constant_form kept constant_alone initialiser_form param_modifier param_modifiers params_from next_params varargs named_end param_rest_form receiver some_dims dot_this with_dims behind_first_name first_rest_form behind_annotations first_params params thrown body method_signature constructor_signature element_end element_signature field_rest typed_member constructed_or void_method primitive_member named_member generic_method annotated_method generic_rest generic static_rest plain_modified nested_member unmodified_of annotation_unmodified
unmodified-more kind.Enum = refl
unmodified-more kind.Class = refl
unmodified-more kind.AnnotationType = refl
unmodified-more kind.Interface = refl

pub unmodified-ends : (k : TypeKind) → HasEnd (unmodified_form k)
unmodified-ends k = record { sound = sound-plain fair (unmodified_form k) (unmodified-ok k) (unmodified-plain k); ends = unmodified-more k }

pub own-many : (k : TypeKind) (room : ℕ) (ts rest : List Symbol) (u : Unmodified) → reads room (unmodified_form k) ts ≡ done u rest → max_children < own_of u → OwnBehind k ts
own-many k room ts rest u e lt = let p = read-phrase (unmodified_form k) room ts u rest e in (p.0, rest, p.1, (u, p.2, lt))

pub own-few : (k : TypeKind) (room : ℕ) (ts rest : List Symbol) (u : Unmodified) → reads room (unmodified_form k) ts ≡ done u rest → own_of u ≤ max_children → OwnBehind k ts → ⊥
own-few k room ts rest u e le (us, vs, cut, (w, is, lt)) =
    let same = passes-value (unmodified_form k) (unmodified-ends k) ts w u vs rest (us, cut, is) (read-phrase (unmodified_form k) room ts u rest e) in
    omega (arith, le, lt, ap own_of same)

pub plain-none : (k : TypeKind) (room : ℕ) (ts : List Symbol) → 3 * length ts ≤ room → ((u : Unmodified) (rest : List Symbol) → reads room (unmodified_form k) ts ≡ done u rest → ⊥) → (u : Unmodified) (rest : List Symbol) → Passes (unmodified_form k) ts u rest → ⊥
plain-none k room ts fits none u rest p = none u rest (passes-reads (unmodified_form k) (unmodified-ends k) room ts u rest fits p)

-- ---- a member that is no type

pub fields-member : (k : TypeKind) (n room : ℕ) (ts rest : List Symbol) (m : Modifiers) → reads room type_modifiers ts ≡ done m rest → FieldsOver room n rest → MemberCrowds k n ts
fields-member k n room ts rest m there f = member-back k n room ts rest m there (in_fields (omega (arith, f.2)) (fields-back k n f.0 room rest f.1 f.2 f.3 f.4))

pub own-member : (k : TypeKind) (n room : ℕ) (ts rest : List Symbol) (m : Modifiers) → reads room type_modifiers ts ≡ done m rest → OwnBehind k rest → MemberCrowds k n ts
own-member k n room ts rest m there o = member-back k n room ts rest m there (in_own o)

pub plain-not : (k : TypeKind) (n room : ℕ) (ts rest : List Symbol) (m : Modifiers) → n ≤ max_children → 3 * length ts ≤ room → 3 * length rest ≤ room → (OneMore k n ts → ⊥) → reads room type_modifiers ts ≡ done m rest → starts (first_of nested_type) rest ≡ false
    → (ExecutableCrowds rest → ⊥) → (FieldsOver room n rest → ⊥) → (OwnBehind k rest → ⊥) → MemberCrowds k n ts → ⊥
plain-not k n room ts rest m le fits fits_rest one there s a f o crowd =
    member-not k n room ts rest m le fits one there (no-type rest s) a (λ lt b. let left = left_of lt in f (over (left.0) left.1 (fields-goes k n left.0 room rest left.1 fits_rest b))) o crowd
  where
    left_of : n < max_children → (left : ℕ) × (left + suc n ≡ max_children)
    left_of lt = (max_children - suc n, omega (arith, lt))

    over : (left : ℕ) → left + suc n ≡ max_children → FieldsRead left room rest → FieldsOver room n rest
    over left e r = (left, r.rest, e, r.there, r.crosses)

pub plain-declared : (k : TypeKind) (room : ℕ) (ts rest : List Symbol) (m : Modifiers) → reads room type_modifiers ts ≡ done m rest → ((u : Unmodified) (end : List Symbol) → Passes (unmodified_form k) rest u end → ⊥) → (end : List Symbol) → DeclaredTo k room ts end → ⊥
plain-declared k room ts rest m there none end d =
    let same : d.mid ≡ rest = done_rest d.mods m d.mid rest (sym d.there ∙ there) in
    none d.value end (subst (λ (zs : List Symbol). Passes (unmodified_form k) zs d.value end) same d.member)

-- ---- what begins a member

or-skip : (a b : Bool) → a ≡ false → (a || b) ≡ b
or-skip true b e = absurd cc
or-skip false b e = refl

member-sort : (k : TypeKind) (n : ℕ) → (n == 67) ≡ false → (n == 63) ≡ false → has (member_firsts k) n ≡ has (modified_firsts k) n
member-sort kind.Enum n a b = or-skip (n == 67) (has ((63 ∷ []) ++ modified_firsts kind.Enum) n) a ∙ or-skip (n == 63) (has (modified_firsts kind.Enum) n) b
member-sort kind.Class n a b = or-skip (n == 67) (has ((63 ∷ []) ++ modified_firsts kind.Class) n) a ∙ or-skip (n == 63) (has (modified_firsts kind.Class) n) b
member-sort kind.AnnotationType n a b = or-skip (n == 67) (has (modified_firsts kind.AnnotationType) n) a
member-sort kind.Interface n a b = or-skip (n == 67) (has (modified_firsts kind.Interface) n) a

pub member-starts : (k : TypeKind) (ts : List Symbol) → starts (67 ∷ []) ts ≡ false → starts (63 ∷ []) ts ≡ false → starts (member_firsts k) ts ≡ starts (modified_firsts k) ts
member-starts k [] a b = refl
member-starts k (t ∷ ts) a b = member-sort k t.sort a b

none-has : (k : TypeKind) (n : ℕ) → ((n == 67) ≡ true) ⊎ ((n == 63) ≡ true) → has (modified_firsts k) n ≡ false
none-has kind.Enum n (inl e) = ap (λ (j : ℕ). has (modified_firsts kind.Enum) j) (eqb-true n 67 e)
none-has kind.Enum n (inr e) = ap (λ (j : ℕ). has (modified_firsts kind.Enum) j) (eqb-true n 63 e)
none-has kind.Class n (inl e) = ap (λ (j : ℕ). has (modified_firsts kind.Class) j) (eqb-true n 67 e)
none-has kind.Class n (inr e) = ap (λ (j : ℕ). has (modified_firsts kind.Class) j) (eqb-true n 63 e)
none-has kind.AnnotationType n (inl e) = ap (λ (j : ℕ). has (modified_firsts kind.AnnotationType) j) (eqb-true n 67 e)
none-has kind.AnnotationType n (inr e) = ap (λ (j : ℕ). has (modified_firsts kind.AnnotationType) j) (eqb-true n 63 e)
none-has kind.Interface n (inl e) = ap (λ (j : ℕ). has (modified_firsts kind.Interface) j) (eqb-true n 67 e)
none-has kind.Interface n (inr e) = ap (λ (j : ℕ). has (modified_firsts kind.Interface) j) (eqb-true n 63 e)

pub none-begins : (k : TypeKind) (ts : List Symbol) → (starts (67 ∷ []) ts ≡ true) ⊎ (starts (63 ∷ []) ts ≡ true) → starts (modified_firsts k) ts ≡ false
none-begins k [] e = refl
none-begins k (t ∷ ts) e = none-has k t.sort e

pub begins-none : (k : TypeKind) (n : ℕ) (ts : List Symbol) → (starts (67 ∷ []) ts ≡ true) ⊎ (starts (63 ∷ []) ts ≡ true) → OneMore k n ts → ⊥
begins-none k n ts e o = not_both (starts (modified_firsts k) ts) (ap (λ (ks : List ℕ). starts ks ts) (sym (modified_first k)) ∙ o.1) (none-begins k ts e)

pub begins-tell : (k : TypeKind) (n : ℕ) (ts : List Symbol) (b : Bool) → max_children ≤ n → starts (67 ∷ []) ts ≡ false → starts (63 ∷ []) ts ≡ false → b ≡ starts (member_firsts k) ts → Decides (OneMore k n ts) b
begins-tell k n ts true le a c e = (le, ap (λ (ks : List ℕ). starts ks ts) (modified_first k) ∙ (sym (member-starts k ts a c) ∙ sym e))
begins-tell k n ts false le a c e =
    λ o. not_both (starts (modified_firsts k) ts) (ap (λ (ks : List ℕ). starts ks ts) (sym (modified_first k)) ∙ o.1) (sym (member-starts k ts a c) ∙ sym e)

nothing-ok : (k : TypeKind) → ok (nothing_form k) ≡ true
nothing-ok kind.Enum = refl
nothing-ok kind.Class = refl
nothing-ok kind.AnnotationType = refl
nothing-ok kind.Interface = refl

nothing-plain : (k : TypeKind) → plain (nothing_form k) ≡ true
nothing-plain kind.Enum = refl
nothing-plain kind.Class = refl
nothing-plain kind.AnnotationType = refl
nothing-plain kind.Interface = refl

nothing-more : (k : TypeKind) → more (nothing_form k) ≡ []
nothing-more kind.Enum = refl
nothing-more kind.Class = refl
nothing-more kind.AnnotationType = refl
nothing-more kind.Interface = refl

nothing-has-end : (k : TypeKind) → HasEnd (nothing_form k)
nothing-has-end k = record { sound = sound-plain fair (nothing_form k) (nothing-ok k) (nothing-plain k); ends = nothing-more k }

pub nothing-none : (k : TypeKind) (room : ℕ) (ts : List Symbol) → 3 * length ts ≤ room → ((x : Unit {0}) (rest : List Symbol) → reads room (nothing_form k) ts ≡ done x rest → ⊥) → (rest : List Symbol) → Passes (nothing_form k) ts tt rest → ⊥
nothing-none k room ts fits none rest p = none tt rest (passes-reads (nothing_form k) (nothing-has-end k) room ts tt rest fits p)

pub nothing-there : (k : TypeKind) (room : ℕ) (ts rest : List Symbol) → reads room (nothing_form k) ts ≡ done tt rest → Passes (nothing_form k) ts tt rest
nothing-there k room ts rest e = read-phrase (nothing_form k) room ts tt rest e
