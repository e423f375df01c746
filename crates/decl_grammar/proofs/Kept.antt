-- What of an initialiser is kept: exactly the constant form that its symbols are, where they are one.
use Rattle.std.proofs.Common.{◌≡◌, ℕ, zero, suc, ◌≤◌, ◌*◌, arith, Bool, true, false, cond, Some, None, List, [], ◌∷◌, ◌++◌, length, refl, sym, ap, subst, ◌∙◌, ⊎_elim}
use Rattle.std.specs.Prelude.{◌&&◌}
use Rattle.std.proofs.lemmas.List.{append-nil}
use Rattle.decl_tree.specs.declared.annotation.ValueText.{ValueText}
use Rattle.decl_grammar.specs.declared.symbol.Symbol.{Symbol}
use Rattle.decl_grammar.specs.Symbols.{numbers}
use Rattle.decl_grammar.specs.Reading.{starts, Outcome, done, fault, deep, ◌>>=◌, read_of}
use Rattle.decl_grammar.specs.File.{ended, phrase_at}
use Rattle.decl_grammar.specs.Form.{Nest, Readers, is_value, counts, first, alone, paired, listed, defaulted, assigned, between, name_there, greater, dot, colons, colon_arguments, creation, test, test_name, test_arguments, test_end, one_of, bracketed, arguments, annotated, created, type_reference, tested, tested_name, tested_dim, type_arguments, created_arguments, array_value, nested_annotation, first_name, constant_value, expression_part, nested_type, modifiers, plain_modifiers, static_word, import_rest, enum_rest, param_rest, first_rest, value_and_rest, expression_rest, initialiser, value_end, constant_items, constant_chain, Form, terminal, pair, turn, maybe, many, either, seen, nest, over, attempt, repeat, attempted, read}
use Rattle.decl_grammar.specs.Types.{name, named_text, dot_name, name_chain, first_pair, next_pair, pairs_or_value, annotation_arguments, annotation_body, annotation, modifier_annotation, annotations, primitive_type, named_part, next_part, class_type, dim, base_type, class_array, primitive_array, reference, annotated_reference, wildcard_bound, wildcard, type_argument, next_argument, arguments_form, annotated_class, next_bound, bounds, type_param, next_type_param, type_params, optional_params, next_class, classes, modifier, plain_modifier, optional_modifiers, type_modifiers}
use Rattle.decl_grammar.specs.Grammar.{param_modifier, param_modifiers, params_from, next_params, varargs, named_end, param_rest_form, receiver, some_dims, dot_this, with_dims, behind_first_name, first_rest_form, behind_annotations, first_params, params, thrown, body, method_signature, constructor_signature, element_end, element_signature, field_rest, typed_member, constructed_or, void_method, primitive_member, named_member, generic_method, annotated_method, generic_rest, generic, static_rest, plain_modified, nested_member, unmodified_of, annotation_unmodified, modified_form, member_form, superclass, implemented, extended, class_form, interface_form, annotation_form, optional_over, constant_part, constant, some_constants, enum_rest_form, constant_list, constants, enum_members, enum_form, type_rest, import_step, import_rest_form, import_named, import_static, import_form, package_form, modified_type, top_type, ordinary, package_part, annotated_package, semicolon, package_info}
use Rattle.decl_grammar.specs.Expressions.{value_rule, read_by, whole_of, created_part, next_created_part, created_type, creation_form, created_arguments_form, test_form, test_name_form, reference_form, annotation_over, annotated_form, part_symbols, step, plain_dots, plain_squares, told_steps, two_readings, other_steps, signs_form, value_squares, listed_values, listed_end, array_form, value_of, value_form, paired_end, listed_more, value_or_end, assigned_end, plain_constant, plus_constant, bare_dim, dot_class, array_class, chain_form, literal_constant, named_constant, negated_constant, primitive_class, void_class, plain_form, constant_end, constant_items_form, constant_array, constant_form, kept, constant_alone, initialiser_form}
use Rattle.decl_grammar.specs.Rule.{rule, enter_if, read_at, read_nest}
use Rattle.decl_grammar.proofs.OneToken.{both, more_of}
use Rattle.decl_grammar.proofs.Complete.{Comes, complete}
use Rattle.decl_grammar.proofs.Told.{Told}
use Rattle.decl_grammar.proofs.Heights.{Whole, Started}
use Rattle.decl_grammar.proofs.RuleFair.{fair}
use Rattle.decl_grammar.proofs.Knot.{IsSound, inside-any}
use Rattle.decl_grammar.proofs.Law.{phrase-only, phrase-fits}
use Rattle.decl_grammar.proofs.TypeWins.{told-reads}

-- ---- forms in which no declaration stands

abbrev pub valued_nest : Nest → Bool
valued_nest type_arguments = true
valued_nest created_arguments = true
valued_nest array_value = true
valued_nest nested_annotation = true
valued_nest first_name = true
valued_nest constant_value = true
valued_nest constant_items = true
valued_nest constant_chain = true
valued_nest (expression_part s p) = is_value s
valued_nest (value_and_rest s) = is_value s
valued_nest (expression_rest s w a) = is_value s
valued_nest (value_end s) = is_value s
valued_nest nested_type = false
valued_nest modifiers = false
valued_nest plain_modifiers = false
valued_nest static_word = false
valued_nest import_rest = false
valued_nest enum_rest = false
valued_nest param_rest = false
valued_nest first_rest = false
valued_nest initialiser = false

abbrev pub valued : {A : Type 0} → Form A → Bool
valued (terminal ks) = true
valued (pair f g) = valued f && valued g
valued (turn h f) = valued f
valued (maybe f) = valued f
valued (many f) = valued f
valued (either f g) = valued f && valued g
valued (seen h f) = valued f
valued (nest m) = valued_nest m
valued (over opens) = true
valued (attempt f g) = valued f && valued g

rule-valued : (m : Nest) → valued_nest m ≡ true → valued (value_rule m) ≡ true
unfolding numbers name named_text dot_name name_chain first_pair next_pair pairs_or_value annotation_arguments annotation_body annotation modifier_annotation annotations primitive_type named_part next_part class_type dim base_type class_array primitive_array reference annotated_reference wildcard_bound wildcard type_argument next_argument arguments_form annotated_class next_bound bounds type_param next_type_param type_params optional_params next_class classes modifier plain_modifier optional_modifiers type_modifiers created_part next_created_part created_type creation_form created_arguments_form test_form test_name_form reference_form annotation_over annotated_form part_symbols step plain_dots plain_squares told_steps two_readings other_steps signs_form value_squares listed_values listed_end array_form value_of value_form paired_end listed_more value_or_end assigned_end plain_constant plus_constant bare_dim dot_class array_class chain_form literal_constant named_constant negated_constant primitive_class void_class plain_form constant_end constant_items_form constant_array constant_form kept constant_alone initialiser_form param_modifier param_modifiers params_from next_params varargs named_end param_rest_form receiver some_dims dot_this with_dims behind_first_name first_rest_form behind_annotations first_params params thrown body method_signature constructor_signature element_end element_signature field_rest typed_member constructed_or void_method primitive_member named_member generic_method annotated_method generic_rest generic static_rest plain_modified nested_member unmodified_of annotation_unmodified modified_form member_form superclass implemented extended class_form interface_form annotation_form optional_over constant_part constant some_constants enum_rest_form constant_list constants enum_members enum_form type_rest import_step import_rest_form import_named import_static import_form package_form modified_type top_type ordinary package_part annotated_package semicolon package_info
rule-valued type_arguments e = refl
rule-valued created_arguments e = refl
rule-valued array_value e = refl
rule-valued nested_annotation e = refl
rule-valued first_name e = refl
rule-valued constant_value e = refl
rule-valued constant_items e = refl
rule-valued constant_chain e = refl
rule-valued (expression_part alone (one_of ks)) e = refl
rule-valued (expression_part alone (bracketed ks)) e = refl
rule-valued (expression_part alone arguments) e = refl
rule-valued (expression_part alone annotated) e = refl
rule-valued (expression_part alone created) e = refl
rule-valued (expression_part alone type_reference) e = refl
rule-valued (expression_part alone tested) e = refl
rule-valued (expression_part alone tested_name) e = refl
rule-valued (expression_part alone tested_dim) e = refl
rule-valued (value_and_rest alone) e = refl
rule-valued (value_end alone) e = refl
rule-valued (expression_rest alone w between) e = refl
rule-valued (expression_rest alone w name_there) e = refl
rule-valued (expression_rest alone w greater) e = refl
rule-valued (expression_rest alone w dot) e = refl
rule-valued (expression_rest alone w colons) e = refl
rule-valued (expression_rest alone w colon_arguments) e = refl
rule-valued (expression_rest alone w creation) e = refl
rule-valued (expression_rest alone w test) e = refl
rule-valued (expression_rest alone w test_name) e = refl
rule-valued (expression_rest alone w test_arguments) e = refl
rule-valued (expression_rest alone w test_end) e = refl
rule-valued (expression_part paired (one_of ks)) e = refl
rule-valued (expression_part paired (bracketed ks)) e = refl
rule-valued (expression_part paired arguments) e = refl
rule-valued (expression_part paired annotated) e = refl
rule-valued (expression_part paired created) e = refl
rule-valued (expression_part paired type_reference) e = refl
rule-valued (expression_part paired tested) e = refl
rule-valued (expression_part paired tested_name) e = refl
rule-valued (expression_part paired tested_dim) e = refl
rule-valued (value_and_rest paired) e = refl
rule-valued (value_end paired) e = refl
rule-valued (expression_rest paired w between) e = refl
rule-valued (expression_rest paired w name_there) e = refl
rule-valued (expression_rest paired w greater) e = refl
rule-valued (expression_rest paired w dot) e = refl
rule-valued (expression_rest paired w colons) e = refl
rule-valued (expression_rest paired w colon_arguments) e = refl
rule-valued (expression_rest paired w creation) e = refl
rule-valued (expression_rest paired w test) e = refl
rule-valued (expression_rest paired w test_name) e = refl
rule-valued (expression_rest paired w test_arguments) e = refl
rule-valued (expression_rest paired w test_end) e = refl
rule-valued (expression_part listed (one_of ks)) e = refl
rule-valued (expression_part listed (bracketed ks)) e = refl
rule-valued (expression_part listed arguments) e = refl
rule-valued (expression_part listed annotated) e = refl
rule-valued (expression_part listed created) e = refl
rule-valued (expression_part listed type_reference) e = refl
rule-valued (expression_part listed tested) e = refl
rule-valued (expression_part listed tested_name) e = refl
rule-valued (expression_part listed tested_dim) e = refl
rule-valued (value_and_rest listed) e = refl
rule-valued (value_end listed) e = refl
rule-valued (expression_rest listed w between) e = refl
rule-valued (expression_rest listed w name_there) e = refl
rule-valued (expression_rest listed w greater) e = refl
rule-valued (expression_rest listed w dot) e = refl
rule-valued (expression_rest listed w colons) e = refl
rule-valued (expression_rest listed w colon_arguments) e = refl
rule-valued (expression_rest listed w creation) e = refl
rule-valued (expression_rest listed w test) e = refl
rule-valued (expression_rest listed w test_name) e = refl
rule-valued (expression_rest listed w test_arguments) e = refl
rule-valued (expression_rest listed w test_end) e = refl
rule-valued (expression_part defaulted (one_of ks)) e = refl
rule-valued (expression_part defaulted (bracketed ks)) e = refl
rule-valued (expression_part defaulted arguments) e = refl
rule-valued (expression_part defaulted annotated) e = refl
rule-valued (expression_part defaulted created) e = refl
rule-valued (expression_part defaulted type_reference) e = refl
rule-valued (expression_part defaulted tested) e = refl
rule-valued (expression_part defaulted tested_name) e = refl
rule-valued (expression_part defaulted tested_dim) e = refl
rule-valued (value_and_rest defaulted) e = refl
rule-valued (value_end defaulted) e = refl
rule-valued (expression_rest defaulted w between) e = refl
rule-valued (expression_rest defaulted w name_there) e = refl
rule-valued (expression_rest defaulted w greater) e = refl
rule-valued (expression_rest defaulted w dot) e = refl
rule-valued (expression_rest defaulted w colons) e = refl
rule-valued (expression_rest defaulted w colon_arguments) e = refl
rule-valued (expression_rest defaulted w creation) e = refl
rule-valued (expression_rest defaulted w test) e = refl
rule-valued (expression_rest defaulted w test_name) e = refl
rule-valued (expression_rest defaulted w test_arguments) e = refl
rule-valued (expression_rest defaulted w test_end) e = refl
rule-valued (expression_part assigned p) e = absurd cc
rule-valued (value_and_rest assigned) e = absurd cc
rule-valued (expression_rest assigned w a) e = absurd cc
rule-valued (value_end assigned) e = absurd cc
rule-valued nested_type e = absurd cc
rule-valued modifiers e = absurd cc
rule-valued plain_modifiers e = absurd cc
rule-valued static_word e = absurd cc
rule-valued import_rest e = absurd cc
rule-valued enum_rest e = absurd cc
rule-valued param_rest e = absurd cc
rule-valued first_rest e = absurd cc
rule-valued initialiser e = absurd cc

same-rule : (r : Readers) (m : Nest) → valued_nest m ≡ true → (ts : List Symbol) → read r (rule m) ts ≡ read r (value_rule m) ts
same-rule r type_arguments e ts = refl
same-rule r created_arguments e ts = refl
same-rule r array_value e ts = refl
same-rule r nested_annotation e ts = refl
same-rule r first_name e ts = refl
same-rule r constant_value e ts = refl
same-rule r constant_items e ts = refl
same-rule r constant_chain e ts = refl
same-rule r (expression_part s p) e ts = refl
same-rule r (value_and_rest s) e ts = refl
same-rule r (expression_rest s w a) e ts = refl
same-rule r (value_end alone) e ts = refl
same-rule r (value_end paired) e ts = refl
same-rule r (value_end listed) e ts = refl
same-rule r (value_end defaulted) e ts = refl
same-rule r (value_end assigned) e ts = absurd cc
same-rule r nested_type e ts = absurd cc
same-rule r modifiers e ts = absurd cc
same-rule r plain_modifiers e ts = absurd cc
same-rule r static_word e ts = absurd cc
same-rule r import_rest e ts = absurd cc
same-rule r enum_rest e ts = absurd cc
same-rule r param_rest e ts = absurd cc
same-rule r first_rest e ts = absurd cc
same-rule r initialiser e ts = absurd cc

-- ---- they are read alike

abbrev Alike : Readers → Readers → Type 0
Alike r q = (m : Nest) → valued_nest m ≡ true → (ts : List Symbol) → r m ts ≡ q m ts

bind-alike : {A B : Type 0} (o p : Outcome A) (k l : A → List Symbol → Outcome B) → o ≡ p → ((x : A) (rest : List Symbol) → k x rest ≡ l x rest) → (o >>= k) ≡ (p >>= l)
bind-alike {A} {B} o p k l e h = ap (λ (z : Outcome A). z >>= k) e ∙ go p
  where
    go : (p : Outcome A) → (p >>= k) ≡ (p >>= l)
    go (done x rest) = h x rest
    go (fault at) = refl
    go (deep at) = refl

cond-alike : {A : Type 0} (c : Bool) (p q r s : Outcome A) → p ≡ r → q ≡ s → cond c p q ≡ cond c r s
cond-alike true p q r s e d = e
cond-alike false p q r s e d = d

repeat-alike : {A : Type 0} (more : List Symbol → Bool) (one two : List Symbol → Outcome A) → ((ts : List Symbol) → one ts ≡ two ts) → (n : ℕ) (ts : List Symbol) → repeat more one n ts ≡ repeat more two n ts
repeat-alike more one two h zero ts = refl
repeat-alike {A} more one two h (suc n) ts =
    cond-alike (more ts) (one ts >>= λ x rest. repeat more one n rest >>= λ xs after. done (x ∷ xs) after) (done [] ts) (two ts >>= λ x rest. repeat more two n rest >>= λ xs after. done (x ∷ xs) after) (done [] ts)
    (bind-alike (one ts) (two ts) (λ x rest. repeat more one n rest >>= λ xs after. done (x ∷ xs) after) (λ x rest. repeat more two n rest >>= λ xs after. done (x ∷ xs) after) (h ts)
    (λ x rest. ap (λ (z : Outcome (List A)). z >>= λ xs after. done (x ∷ xs) after) (repeat-alike more one two h n rest)))
    refl

read-alike : (r q : Readers) → Alike r q → {A : Type 0} (f : Form A) → valued f ≡ true → (ts : List Symbol) → read r f ts ≡ read q f ts
read-alike r q h (terminal ks) e ts = refl
read-alike r q h (pair {A} {B} f g) e ts =
    let z = both (valued f) (valued g) e in
    bind-alike {B = A × B} (read r f ts) (read q f ts) (λ x rest. read r g rest >>= λ y after. done (x, y) after) (λ x rest. read q g rest >>= λ y after. done (x, y) after) (read-alike r q h f z.0 ts)
    (λ x rest. ap (λ (o : Outcome B). joining x o) (read-alike r q h g z.1 rest))
  where
    joining : A → Outcome B → Outcome (A × B)
    joining x o = o >>= λ y after. done (x, y) after
read-alike r q h (turn {A} {B} k f) e ts = ap (λ (o : Outcome A). o >>= λ x rest. done (k x) rest) (read-alike r q h f e ts)
read-alike r q h (maybe {A} f) e ts = ap (λ (o : Outcome A). cond (starts (first f) ts) (o >>= λ x rest. done (Some x) rest) (done None ts)) (read-alike r q h f e ts)
read-alike r q h (many f) e ts = repeat-alike (starts (first f)) (read r f) (read q f) (read-alike r q h f e) (length ts) ts
read-alike r q h (either f g) e ts =
    let z = both (valued f) (valued g) e in
    cond-alike (starts (first f) ts) (read r f ts) (read r g ts) (read q f ts) (read q g ts) (read-alike r q h f z.0 ts) (read-alike r q h g z.1 ts)
read-alike r q h (seen {A} {B} k f) e ts = ap (λ (o : Outcome A). showing o) (read-alike r q h f e ts)
  where
    showing : Outcome A → Outcome (B × A)
    showing o = o >>= λ x rest. done (k (read_of ts rest), x) rest
read-alike r q h (nest m) e ts = h m e ts
read-alike r q h (over opens) e ts = refl
read-alike r q h (attempt {A} f g) e ts =
    let z = both (valued f) (valued g) e in
    ap (λ (o : Outcome A). attempted o (read r g ts)) (read-alike r q h f z.0 ts) ∙ ap (λ (o : Outcome A). attempted (read q f ts) o) (read-alike r q h g z.1 ts)

-- where there is room for each form that is entered, none is too deep
enter-alike : (n room : ℕ) → n ≤ room → ((k : ℕ) → n ≤ k → Alike (read_at n k) (read_by value_rule n)) → (m : Nest) → valued_nest m ≡ true → (c : Bool) (ts : List Symbol) → enter_if m c (read_at n) (suc room) ts ≡ read (read_by value_rule n) (value_rule m) ts
enter-alike n room le h m e true ts = same-rule (read_at n room) m e ts ∙ read-alike (read_at n room) (read_by value_rule n) (h room le) (value_rule m) (rule-valued m e) ts
enter-alike n room le h m e false ts = same-rule (read_at n (suc room)) m e ts ∙ read-alike (read_at n (suc room)) (read_by value_rule n) (h (suc room) (omega (arith, le))) (value_rule m) (rule-valued m e) ts

values-alike : (n room : ℕ) → n ≤ room → Alike (read_at n room) (read_by value_rule n)
values-alike zero room le m e ts = refl
values-alike (suc n) zero le m e ts = absurd (omega (arith, le))
values-alike (suc n) (suc room) le m e ts = enter-alike n room (omega (arith, le)) (λ k z. values-alike n k z) m e (counts m) ts

kept-reads : (us : List Symbol) → kept us ≡ whole_of (read_nest (3 * suc (length us)) constant_value us)
unfolding kept read_nest
kept-reads us = ap (λ (o : Outcome ValueText). whole_of o) (sym (values-alike (3 * suc (length us)) (3 * suc (length us)) (omega arith) constant_value refl us))

-- ---- what is kept is the constant form

constant-sound : IsSound (nest constant_value)
constant-sound = (refl, tt, fair)

whole-done : {A : Type 0} (o : Outcome A) (x : A) → whole_of o ≡ Some x → o ≡ done x []
whole-done (done y []) x e = let z : y ≡ x = cc in ap (λ (v : _). done v []) z
whole-done (done y (t ∷ rest)) x e = absurd cc
whole-done (fault at) x e = absurd cc
whole-done (deep at) x e = absurd cc

ended-done : {A : Type 0} (o : Outcome A) (x : A) → (o >>= ended) ≡ done x [] → o ≡ done x []
ended-done (done y []) x e = e
ended-done (done y (t ∷ rest)) x e = absurd cc
ended-done (fault at) x e = absurd cc
ended-done (deep at) x e = absurd cc

-- these symbols are the constant form that is kept
pub kept-whole : (us : List Symbol) (v : ValueText) → kept us ≡ Some v → Whole constant_value us v
kept-whole us v e =
    let d = whole-done (read_nest (3 * suc (length us)) constant_value us) v (sym (kept-reads us) ∙ e) in
    let t : Told (3 * suc (length us)) Whole Started (nest constant_value) us (done v []) = subst (λ (o : Outcome ValueText). Told (3 * suc (length us)) Whole Started (nest constant_value) us o) d (told-reads (nest constant_value) (3 * suc (length us)) us) in
    subst (λ (u : List Symbol). Whole constant_value u v) (sym (t.1 ∙ append-nil t.0)) t.2

-- a constant form is kept
pub whole-kept : (us : List Symbol) (v : ValueText) → Whole constant_value us v → kept us ≡ Some v
whole-kept us v is =
    ⊎_elim
    (λ (e : phrase_at (3 * suc (length us)) (nest constant_value) us ≡ done v []).
    kept-reads us ∙ ap (λ (o : Outcome ValueText). whole_of o) (ended-done (read_nest (3 * suc (length us)) constant_value us) v e))
    (λ (e : (at : List Symbol) × (phrase_at (3 * suc (length us)) (nest constant_value) us ≡ deep at)). absurd (phrase-fits (nest constant_value) (3 * suc (length us)) us e.0 (omega arith) e.1))
    (phrase-only (nest constant_value) constant-sound (3 * suc (length us)) us v is)

-- what is kept of symbols is read where they stand, unless it is too deep there
pub kept-read : (room : ℕ) (us rest : List Symbol) (v : ValueText) → starts (more_of constant_value) rest ≡ false → kept us ≡ Some v → Comes v rest (read_nest room constant_value (us ++ rest))
kept-read room us rest v s e = complete Whole Whole Started room (read_nest room) (inside-any fair room) (nest constant_value) refl tt us v rest s (kept-whole us v e)
