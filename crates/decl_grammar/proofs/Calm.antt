-- In an expression over what might be a constant form nothing that counts is open.
use Rattle.std.proofs.Common.{◌≡◌, ℕ, zero, suc, ◌≤◌, arith, Bool, true, false, List, [], ◌∷◌, ◌++◌, Some, None, refl, subst, ◌∙◌, inl, inr, ⊎_elim}
use Rattle.std.specs.Prelude.{◌&&◌, ◌||◌}
use Rattle.decl_grammar.specs.declared.symbol.Symbol.{Symbol}
use Rattle.decl_grammar.specs.Reading.{has}
use Rattle.decl_grammar.specs.Symbols.{numbers}
use Rattle.decl_grammar.specs.Form.{Part, After, Nest, Form, opened, terminal, pair, turn, maybe, many, either, seen, nest, over, attempt, Wholes, Begun, Is, Begins, alone, paired, listed, defaulted, assigned, strict, conditional, anywhere, between, name_there, greater, dot, colons, colon_arguments, creation, test, test_name, test_arguments, test_end, one_of, bracketed, arguments, annotated, created, type_reference, tested, tested_name, tested_dim, type_arguments, created_arguments, array_value, nested_annotation, first_name, constant_value, expression_part, nested_type, modifiers, plain_modifiers, static_word, import_rest, enum_rest, param_rest, first_rest, value_and_rest, expression_rest, initialiser, value_end, constant_items, constant_chain, first_of, nullable, first}
use Rattle.decl_grammar.specs.Types.{name, named_text, dot_name, name_chain, first_pair, next_pair, pairs_or_value, annotation_arguments, annotation_body, annotation, modifier_annotation, annotations, primitive_type, named_part, next_part, class_type, dim, base_type, class_array, primitive_array, reference, annotated_reference, wildcard_bound, wildcard, type_argument, next_argument, arguments_form, annotated_class, next_bound, bounds, type_param, next_type_param, type_params, optional_params, next_class, classes, modifier, plain_modifier, optional_modifiers, type_modifiers}
use Rattle.decl_grammar.specs.Expressions.{expression, initialised, kept_alone, created_part, next_created_part, created_type, creation_form, created_arguments_form, test_form, test_name_form, reference_form, annotation_over, annotated_form, part_symbols, step, plain_dots, plain_squares, told_steps, two_readings, other_steps, signs_form, value_squares, listed_values, listed_end, array_form, value_of, value_form, paired_end, listed_more, value_or_end, assigned_end, plain_constant, plus_constant, bare_dim, dot_class, array_class, chain_form, literal_constant, named_constant, negated_constant, primitive_class, void_class, plain_form, constant_end, constant_items_form, constant_array, constant_form, kept, constant_alone, initialiser_form}
use Rattle.decl_grammar.specs.Grammar.{param_modifier, param_modifiers, params_from, next_params, varargs, named_end, param_rest_form, receiver, some_dims, dot_this, with_dims, behind_first_name, first_rest_form, behind_annotations, first_params, params, thrown, body, method_signature, constructor_signature, element_end, element_signature, field_rest, typed_member, constructed_or, void_method, primitive_member, named_member, generic_method, annotated_method, generic_rest, generic, static_rest, plain_modified, nested_member, unmodified_of, annotation_unmodified, modified_form, member_form, superclass, implemented, extended, class_form, interface_form, annotation_form, optional_over, constant_part, constant, some_constants, enum_rest_form, constant_list, constants, enum_members, enum_form, type_rest, import_step, import_rest_form, import_named, import_static, import_form, package_form, modified_type, top_type, ordinary, package_part, annotated_package, semicolon, package_info}
use Rattle.decl_grammar.specs.Rule.{rule, WholeAt, BegunAt}
use Rattle.decl_grammar.proofs.OneToken.{no, no_true, both, one_or, not_both, within, within-has, disjoint-has}
use Rattle.decl_grammar.proofs.Heads.{Full, WholeHeads, BegunHeads, Is-nil, Is-head, Begins-head}
use Rattle.decl_grammar.proofs.Heights.{Whole, Started, full-at, heads-at, bheads-at, full-any, heads-any, bheads-any}
use Rattle.decl_grammar.proofs.OpenBrackets.{constant_stops, within_constant, Leads, leads-same, leads-split}
use Rattle.decl_grammar.proofs.Effects.{in_constant, Effect, level, opening, closing, mixed, effect, Levels, Opened}
use Rattle.decl_grammar.proofs.EffectLemmas.{NestLevels, form-levels, form-opened}
use Rattle.decl_grammar.proofs.Closed.{levels-at, levels-any, opened-any}
use Rattle.decl_grammar.proofs.TypeEnds.{flat, flat-open}

abbrev pub is_level : Effect → Bool
is_level level = true
is_level (opening c) = false
is_level (closing c) = false
is_level mixed = false

-- it begins with what stands in no constant form
abbrev pub barred : {A : Type 0} → Form A → Bool
barred f = within (first f) constant_stops && no (nullable f)

abbrev pub calm_part : Part → Bool
calm_part (one_of ks) = true
calm_part (bracketed ks) = true
calm_part arguments = true
calm_part annotated = true
calm_part created = true
calm_part type_reference = true
calm_part tested = true
calm_part tested_name = false
calm_part tested_dim = false

abbrev pub calm_after : After → Bool
calm_after between = true
calm_after name_there = true
calm_after greater = true
calm_after dot = true
calm_after colons = true
calm_after colon_arguments = false
calm_after creation = false
calm_after test = false
calm_after test_name = false
calm_after test_arguments = false
calm_after test_end = false

-- the rows of an initialiser but behind an `instanceof` and what is created
abbrev pub calm_nest : Nest → Bool
calm_nest (expression_part alone p) = false
calm_nest (expression_rest alone w a) = false
calm_nest (value_end alone) = false
calm_nest (expression_part paired p) = false
calm_nest (expression_rest paired w a) = false
calm_nest (value_end paired) = false
calm_nest (expression_part listed p) = false
calm_nest (expression_rest listed w a) = false
calm_nest (value_end listed) = false
calm_nest (expression_part defaulted p) = false
calm_nest (expression_rest defaulted w a) = false
calm_nest (value_end defaulted) = false
calm_nest (expression_part assigned p) = calm_part p
calm_nest (expression_rest assigned w a) = calm_after a
calm_nest (value_end assigned) = true
calm_nest type_arguments = false
calm_nest created_arguments = false
calm_nest array_value = false
calm_nest nested_annotation = false
calm_nest first_name = false
calm_nest constant_value = false
calm_nest nested_type = false
calm_nest modifiers = false
calm_nest plain_modifiers = false
calm_nest static_word = false
calm_nest import_rest = false
calm_nest enum_rest = false
calm_nest param_rest = false
calm_nest first_rest = false
calm_nest (value_and_rest s) = false
calm_nest initialiser = false
calm_nest constant_items = false
calm_nest constant_chain = false

abbrev pub calm : {A : Type 0} → Form A → Bool
calm (terminal ks) = true
calm (pair f g) = calm f && (barred f || (is_level (effect in_constant f) && calm g))
calm (turn h f) = calm f
calm (maybe f) = flat f
calm (many f) = flat f
calm (either f g) = calm f && calm g
calm (seen h f) = calm f
calm (nest m) = calm_nest m || barred (nest m)
calm (over opens) = true
calm (attempt f g) = calm f && calm g

-- what is known of the forms that hold themselves
pub record Known (w : Wholes) (b : Begun) : Type 0 where
  pub full : Full w
  pub heads : WholeHeads w
  pub bheads : BegunHeads b
  pub levels : NestLevels w
  pub calms : (m : Nest) → calm_nest m ≡ true → (us : List Symbol) (n : ℕ) (ms : List ℕ) → Leads us (200 ∷ []) ms → b m us n → opened m n ≡ 0

no-next : (t : Symbol) (next : List ℕ) → has constant_stops t.sort ≡ true → within_constant [] t ≡ Some next → ⊥
no-next t next e p = let q : within_constant [] t ≡ None = rw (disjoint-has constant_stops (67 ∷ []) t.sort refl e, e) refl in cc

stopped : (t : Symbol) (us : List Symbol) (ms : List ℕ) → has constant_stops t.sort ≡ true → Leads (t ∷ us) (200 ∷ []) ms → ⊥
stopped t us ms e l = no-next t l.0 e l.1

barred-whole : (w : Wholes) (b : Begun) → Known w b → {A : Type 0} (f : Form A) → barred f ≡ true → (us vs : List Symbol) (ms : List ℕ) (x : A) → Leads (us ++ vs) (200 ∷ []) ms → Is w f us x → ⊥
barred-whole w b known f e [] vs ms x l is = not_both (nullable f) (Is-nil w known.full f [] x refl is) (no_true (nullable f) (both (within (first f) constant_stops) (no (nullable f)) e).1)
barred-whole w b known f e (t ∷ us) vs ms x l is =
    stopped t (us ++ vs) ms (within-has (first f) constant_stops t.sort (both (within (first f) constant_stops) (no (nullable f)) e).0 (Is-head w known.full known.heads f t us x (t ∷ us) refl is)) l

barred-nest : (w : Wholes) (b : Begun) → Known w b → (m : Nest) → barred (nest m) ≡ true → (us : List Symbol) (n : ℕ) (ms : List ℕ) → Leads us (200 ∷ []) ms → Begins w b (nest m) us n → n ≡ 0
barred-nest w b known m e us n ms l (inl p) = p.1
barred-nest w b known m e [] n ms l (inr q) = absurd (let z = q.3 in cc)
barred-nest w b known m e (t ∷ us) n ms l (inr q) =
    absurd (stopped t us ms (within-has (first_of m) constant_stops t.sort (both (within (first_of m) constant_stops) true e).0 (Begins-head w b known.full known.heads known.bheads (nest m) t us n (t ∷ us) refl (inr q))) l)

behind-level : (e : Effect) → is_level e ≡ true → (us vs : List Symbol) (ms : List ℕ) → Levels in_constant e us → Leads (us ++ vs) (200 ∷ []) ms → Leads vs (200 ∷ []) ms
behind-level level e us vs ms p l =
    let q = leads-split us vs (200 ∷ []) ms l in
    subst (λ (x : List ℕ). Leads vs x ms) (leads-same us (200 ∷ []) q.0 (200 ∷ []) q.1 (p 200 [] refl)) q.2
behind-level (opening c) e us vs ms p l = absurd cc
behind-level (closing c) e us vs ms p l = absurd cc
behind-level mixed e us vs ms p l = absurd cc

pub form-calm : (w : Wholes) (b : Begun) → Known w b → {A : Type 0} (f : Form A) → calm f ≡ true → (us : List Symbol) (n : ℕ) (ms : List ℕ) → Leads us (200 ∷ []) ms → Begins w b f us n → n ≡ 0
form-calm w b known (terminal ks) e us n ms l p = p.0
form-calm w b known (pair f g) e us n ms l (inl p) = form-calm w b known f (both (calm f) (barred f || (is_level (effect in_constant f) && calm g)) e).0 us n ms l p
form-calm w b known (pair f g) e us n ms l (inr q) =
    let there : Leads (q.0 ++ q.1) (200 ∷ []) ms = subst (λ (u : List Symbol). Leads u (200 ∷ []) ms) q.3 l in
    ⊎_elim
    (λ (z : barred f ≡ true). absurd (barred-whole w b known f z q.0 q.1 ms q.2 there q.4))
    (λ (z : (is_level (effect in_constant f) && calm g) ≡ true).
    let y = both (is_level (effect in_constant f)) (calm g) z in
    form-calm w b known g y.1 q.1 n ms (behind-level (effect in_constant f) y.0 q.0 q.1 ms (form-levels w known.levels in_constant f q.0 q.2 q.4) there) q.5)
    (one_or (barred f) (is_level (effect in_constant f) && calm g) (both (calm f) (barred f || (is_level (effect in_constant f) && calm g)) e).1)
form-calm w b known (turn h f) e us n ms l p = form-calm w b known f e us n ms l p
form-calm w b known (maybe f) e us n ms l p = flat-open w b f e us n p
form-calm w b known (many f) e us n ms l q = flat-open w b f e q.1 n q.5
form-calm w b known (either f g) e us n ms l (inl p) = form-calm w b known f (both (calm f) (calm g) e).0 us n ms l p
form-calm w b known (either f g) e us n ms l (inr p) = form-calm w b known g (both (calm f) (calm g) e).1 us n ms l p
form-calm w b known (seen h f) e us n ms l p = form-calm w b known f e us n ms l p
form-calm w b known (nest m) e us n ms l p = ⊎_elim (λ (z : calm_nest m ≡ true). inside z p) (λ (z : barred (nest m) ≡ true). barred-nest w b known m z us n ms l p) (one_or (calm_nest m) (barred (nest m)) e)
  where
    inside : calm_nest m ≡ true → Begins w b (nest m) us n → n ≡ 0
    inside z (inl p) = p.1
    inside z (inr q) = q.4 ∙ known.calms m z us q.2 ms l q.5
form-calm w b known (over opens) e us n ms l p = p.0
form-calm w b known (attempt f g) e us n ms l (inl p) = form-calm w b known f (both (calm f) (calm g) e).0 us n ms l p
form-calm w b known (attempt f g) e us n ms l (inr p) = form-calm w b known g (both (calm f) (calm g) e).1 us n ms l p

rule-calm : (m : Nest) → calm_nest m ≡ true → (calm (rule m) ≡ true) × ((n : ℕ) → opened m n ≡ n)
unfolding numbers name named_text dot_name name_chain first_pair next_pair pairs_or_value annotation_arguments annotation_body annotation modifier_annotation annotations primitive_type named_part next_part class_type dim base_type class_array primitive_array reference annotated_reference wildcard_bound wildcard type_argument next_argument arguments_form annotated_class next_bound bounds type_param next_type_param type_params optional_params next_class classes modifier plain_modifier optional_modifiers type_modifiers created_part next_created_part created_type creation_form created_arguments_form test_form test_name_form reference_form annotation_over annotated_form part_symbols step plain_dots plain_squares told_steps two_readings other_steps signs_form value_squares listed_values listed_end array_form value_of value_form paired_end listed_more value_or_end assigned_end plain_constant plus_constant bare_dim dot_class array_class chain_form literal_constant named_constant negated_constant primitive_class void_class plain_form constant_end constant_items_form constant_array constant_form kept constant_alone initialiser_form param_modifier param_modifiers params_from next_params varargs named_end param_rest_form receiver some_dims dot_this with_dims behind_first_name first_rest_form behind_annotations first_params params thrown body method_signature constructor_signature element_end element_signature field_rest typed_member constructed_or void_method primitive_member named_member generic_method annotated_method generic_rest generic static_rest plain_modified nested_member unmodified_of annotation_unmodified modified_form member_form superclass implemented extended class_form interface_form annotation_form optional_over constant_part constant some_constants enum_rest_form constant_list constants enum_members enum_form type_rest import_step import_rest_form import_named import_static import_form package_form modified_type top_type ordinary package_part annotated_package semicolon package_info
rule-calm (expression_part assigned (one_of ks)) e = (refl, λ n. refl)
rule-calm (expression_part assigned (bracketed ks)) e = (refl, λ n. refl)
rule-calm (expression_part assigned arguments) e = (refl, λ n. refl)
rule-calm (expression_part assigned annotated) e = (refl, λ n. refl)
rule-calm (expression_part assigned created) e = (refl, λ n. refl)
rule-calm (expression_part assigned type_reference) e = (refl, λ n. refl)
rule-calm (expression_part assigned tested) e = (refl, λ n. refl)
rule-calm (expression_part assigned tested_name) e = absurd cc
rule-calm (expression_part assigned tested_dim) e = absurd cc
rule-calm (expression_rest assigned strict between) e = (refl, λ n. refl)
rule-calm (expression_rest assigned (conditional zero) between) e = (refl, λ n. refl)
rule-calm (expression_rest assigned (conditional (suc n)) between) e = (refl, λ n. refl)
rule-calm (expression_rest assigned anywhere between) e = (refl, λ n. refl)
rule-calm (expression_rest assigned strict name_there) e = (refl, λ n. refl)
rule-calm (expression_rest assigned (conditional zero) name_there) e = (refl, λ n. refl)
rule-calm (expression_rest assigned (conditional (suc n)) name_there) e = (refl, λ n. refl)
rule-calm (expression_rest assigned anywhere name_there) e = (refl, λ n. refl)
rule-calm (expression_rest assigned strict greater) e = (refl, λ n. refl)
rule-calm (expression_rest assigned (conditional zero) greater) e = (refl, λ n. refl)
rule-calm (expression_rest assigned (conditional (suc n)) greater) e = (refl, λ n. refl)
rule-calm (expression_rest assigned anywhere greater) e = (refl, λ n. refl)
rule-calm (expression_rest assigned strict dot) e = (refl, λ n. refl)
rule-calm (expression_rest assigned (conditional zero) dot) e = (refl, λ n. refl)
rule-calm (expression_rest assigned (conditional (suc n)) dot) e = (refl, λ n. refl)
rule-calm (expression_rest assigned anywhere dot) e = (refl, λ n. refl)
rule-calm (expression_rest assigned strict colons) e = (refl, λ n. refl)
rule-calm (expression_rest assigned (conditional zero) colons) e = (refl, λ n. refl)
rule-calm (expression_rest assigned (conditional (suc n)) colons) e = (refl, λ n. refl)
rule-calm (expression_rest assigned anywhere colons) e = (refl, λ n. refl)
rule-calm (expression_rest assigned w colon_arguments) e = absurd cc
rule-calm (expression_rest assigned w creation) e = absurd cc
rule-calm (expression_rest assigned w test) e = absurd cc
rule-calm (expression_rest assigned w test_name) e = absurd cc
rule-calm (expression_rest assigned w test_arguments) e = absurd cc
rule-calm (expression_rest assigned w test_end) e = absurd cc
rule-calm (value_end assigned) e = (refl, λ n. refl)
rule-calm (expression_part alone p) e = absurd cc
rule-calm (expression_rest alone w a) e = absurd cc
rule-calm (value_end alone) e = absurd cc
rule-calm (expression_part paired p) e = absurd cc
rule-calm (expression_rest paired w a) e = absurd cc
rule-calm (value_end paired) e = absurd cc
rule-calm (expression_part listed p) e = absurd cc
rule-calm (expression_rest listed w a) e = absurd cc
rule-calm (value_end listed) e = absurd cc
rule-calm (expression_part defaulted p) e = absurd cc
rule-calm (expression_rest defaulted w a) e = absurd cc
rule-calm (value_end defaulted) e = absurd cc
rule-calm type_arguments e = absurd cc
rule-calm created_arguments e = absurd cc
rule-calm array_value e = absurd cc
rule-calm nested_annotation e = absurd cc
rule-calm first_name e = absurd cc
rule-calm constant_value e = absurd cc
rule-calm nested_type e = absurd cc
rule-calm modifiers e = absurd cc
rule-calm plain_modifiers e = absurd cc
rule-calm static_word e = absurd cc
rule-calm import_rest e = absurd cc
rule-calm enum_rest e = absurd cc
rule-calm param_rest e = absurd cc
rule-calm first_rest e = absurd cc
rule-calm (value_and_rest s) e = absurd cc
rule-calm initialiser e = absurd cc
rule-calm constant_items e = absurd cc
rule-calm constant_chain e = absurd cc

calm-at : (h : ℕ) → Known (WholeAt h) (BegunAt h)
calm-at zero = record { full = full-at zero; heads = heads-at zero; bheads = bheads-at zero; levels = levels-at zero; calms = λ m z us n ms l p. absurd p }
calm-at (suc h) = record {
  full = full-at (suc h);
  heads = heads-at (suc h);
  bheads = bheads-at (suc h);
  levels = levels-at (suc h);
  calms = λ m z us n ms l p. (rule-calm m z).1 n ∙ form-calm (WholeAt h) (BegunAt h) (calm-at h) (rule m) (rule-calm m z).0 us n ms l p;
}

calm-any : Known Whole Started
calm-any = record { full = full-any; heads = heads-any; bheads = bheads-any; levels = levels-any; calms = λ m z us n ms l p. (calm-at p.0).calms m z us n ms l p.1 }

constant-only : effect in_constant (turn kept_alone constant_alone) ≡ closing 200
unfolding numbers name named_text dot_name name_chain first_pair next_pair pairs_or_value annotation_arguments annotation_body annotation modifier_annotation annotations primitive_type named_part next_part class_type dim base_type class_array primitive_array reference annotated_reference wildcard_bound wildcard type_argument next_argument arguments_form annotated_class next_bound bounds type_param next_type_param type_params optional_params next_class classes modifier plain_modifier optional_modifiers type_modifiers created_part next_created_part created_type creation_form created_arguments_form test_form test_name_form reference_form annotation_over annotated_form part_symbols step plain_dots plain_squares told_steps two_readings other_steps signs_form value_squares listed_values listed_end array_form value_of value_form paired_end listed_more value_or_end assigned_end plain_constant plus_constant bare_dim dot_class array_class chain_form literal_constant named_constant negated_constant primitive_class void_class plain_form constant_end constant_items_form constant_array constant_form kept constant_alone initialiser_form param_modifier param_modifiers params_from next_params varargs named_end param_rest_form receiver some_dims dot_this with_dims behind_first_name first_rest_form behind_annotations first_params params thrown body method_signature constructor_signature element_end element_signature field_rest typed_member constructed_or void_method primitive_member named_member generic_method annotated_method generic_rest generic static_rest plain_modified nested_member unmodified_of annotation_unmodified modified_form member_form superclass implemented extended class_form interface_form annotation_form optional_over constant_part constant some_constants enum_rest_form constant_list constants enum_members enum_form type_rest import_step import_rest_form import_named import_static import_form package_form modified_type top_type ordinary package_part annotated_package semicolon package_info
constant-only = refl

expression-calm : calm (turn initialised (expression assigned)) ≡ true
unfolding numbers name named_text dot_name name_chain first_pair next_pair pairs_or_value annotation_arguments annotation_body annotation modifier_annotation annotations primitive_type named_part next_part class_type dim base_type class_array primitive_array reference annotated_reference wildcard_bound wildcard type_argument next_argument arguments_form annotated_class next_bound bounds type_param next_type_param type_params optional_params next_class classes modifier plain_modifier optional_modifiers type_modifiers created_part next_created_part created_type creation_form created_arguments_form test_form test_name_form reference_form annotation_over annotated_form part_symbols step plain_dots plain_squares told_steps two_readings other_steps signs_form value_squares listed_values listed_end array_form value_of value_form paired_end listed_more value_or_end assigned_end plain_constant plus_constant bare_dim dot_class array_class chain_form literal_constant named_constant negated_constant primitive_class void_class plain_form constant_end constant_items_form constant_array constant_form kept constant_alone initialiser_form param_modifier param_modifiers params_from next_params varargs named_end param_rest_form receiver some_dims dot_this with_dims behind_first_name first_rest_form behind_annotations first_params params thrown body method_signature constructor_signature element_end element_signature field_rest typed_member constructed_or void_method primitive_member named_member generic_method annotated_method generic_rest generic static_rest plain_modified nested_member unmodified_of annotation_unmodified modified_form member_form superclass implemented extended class_form interface_form annotation_form optional_over constant_part constant some_constants enum_rest_form constant_list constants enum_members enum_form type_rest import_step import_rest_form import_named import_static import_form package_form modified_type top_type ordinary package_part annotated_package semicolon package_info
expression-calm = refl

-- Of the two readings of an initialiser the constant form has at least as much open.
pub initialiser-dominated : (us : List Symbol) (m n : ℕ) → Begins Whole Started (turn kept_alone constant_alone) us m → Begins Whole Started (turn initialised (expression assigned)) us n
    → (k : ℕ) × (n ≤ k) × Begins Whole Started (turn kept_alone constant_alone) us k
initialiser-dominated us m n p q =
    let o : Opened in_constant (closing 200) us = subst (λ (e : Effect). Opened in_constant e us) constant-only (form-opened Whole Started levels-any opened-any in_constant (turn kept_alone constant_alone) us m p) in
    let r = o [] in
    let z : n ≡ 0 = form-calm Whole Started calm-any (turn initialised (expression assigned)) expression-calm us n (r.0 ++ []) r.1 q in
    (m, omega (arith, z), p)
