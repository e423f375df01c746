-- Within a type with arguments: where a `<` or an `@` may stand, any list of type arguments or annotation may be begun there.
use Rattle.std.proofs.Common.{◌≡◌, ℕ, zero, suc, arith, true, List, [], ◌∷◌, ◌++◌, refl, sym, ap, subst, ◌∙◌, inl, inr}
use Rattle.decl_tree.specs.declared.type_text.BaseType.TheVariants as base
use Rattle.decl_grammar.specs.declared.symbol.Symbol.{Symbol}
use Rattle.decl_grammar.specs.Reading.{has}
use Rattle.decl_grammar.specs.Form.{names, ats, primitive_sorts, type_arguments, Form, terminal, pair, turn, maybe, many, either, nest, Begins}
use Rattle.decl_grammar.specs.Symbols.{word}
use Rattle.decl_grammar.specs.TokenNames as token
use Rattle.decl_grammar.specs.Types.{sign, keyword, behind, before, no_pairs, first_and_rest, name, named_text, dot_name, name_chain, first_pair, pairs_or_value, annotation_arguments, annotation_body, annotation, annotations, primitive_type, named_part, next_part, class_type, dim, array_around, class_array, primitive_array, reference, annotated_reference, wildcard_bound, wildcard, type_in, type_argument, next_argument, arguments_form}
use Rattle.decl_grammar.specs.Expressions.{reference_form}
use Rattle.decl_grammar.specs.Rule.{WholeAt, BegunAt}
use Rattle.decl_grammar.proofs.OneToken.{not_both, disjoint-has}
use Rattle.decl_grammar.proofs.Heads.{nil_parts, Begins-head}
use Rattle.decl_grammar.proofs.Rivals.{Begins-up}
use Rattle.decl_grammar.proofs.Heights.{full-at, heads-at, bheads-at}
use Rattle.decl_grammar.proofs.OpenBrackets.{Leads, leads-same, leads-split}
use Rattle.decl_grammar.proofs.Effects.{Mode, in_brackets, in_arguments, in_constant, in_reference, Effect, level, opening, closing, effect, Levels}
use Rattle.decl_grammar.proofs.EffectLemmas.{form-levels}
use Rattle.decl_grammar.proofs.Closed.{levels-at}
use Rattle.decl_grammar.proofs.Raised.{above, whole-second, begun-second}
use Rattle.decl_grammar.proofs.Plants.{Filled, Fills, Hole, Plants, Spot, angular, at_list, at_mark, longer-by, none-there, plants-closed, plants-either, plants-many, plants-pair, plants-terminal, spot-behind}

-- ---- what the forms of types do to what is open

pub level-name : (b : Mode) → angular b ≡ true → effect b name ≡ level
unfolding name
level-name in_arguments e = refl
level-name in_reference e = refl
level-name in_brackets e = absurd cc
level-name in_constant e = absurd cc

pub level-dot : (b : Mode) → angular b ≡ true → effect b (sign token.dot) ≡ level
level-dot in_arguments e = refl
level-dot in_reference e = refl
level-dot in_brackets e = absurd cc
level-dot in_constant e = absurd cc

pub level-chain : (b : Mode) → angular b ≡ true → effect b name_chain ≡ level
unfolding name_chain name dot_name
level-chain in_arguments e = refl
level-chain in_reference e = refl
level-chain in_brackets e = absurd cc
level-chain in_constant e = absurd cc

pub level-marks : (b : Mode) → angular b ≡ true → effect b annotations ≡ level
unfolding annotations annotation annotation_body annotation_arguments name_chain dot_name name pairs_or_value first_pair named_text
level-marks in_arguments e = refl
level-marks in_reference e = refl
level-marks in_brackets e = absurd cc
level-marks in_constant e = absurd cc

pub level-mark-start : (b : Mode) → angular b ≡ true → effect b (terminal ats) ≡ level
level-mark-start in_arguments e = refl
level-mark-start in_reference e = refl
level-mark-start in_brackets e = absurd cc
level-mark-start in_constant e = absurd cc

pub level-names-more : (b : Mode) → angular b ≡ true → effect b (many dot_name) ≡ level
unfolding dot_name name
level-names-more in_arguments e = refl
level-names-more in_reference e = refl
level-names-more in_brackets e = absurd cc
level-names-more in_constant e = absurd cc

pub level-part : (b : Mode) → angular b ≡ true → effect b named_part ≡ level
unfolding named_part name
level-part in_arguments e = refl
level-part in_reference e = refl
level-part in_brackets e = absurd cc
level-part in_constant e = absurd cc

pub level-parts : (b : Mode) → angular b ≡ true → effect b (many next_part) ≡ level
unfolding next_part named_part name annotations annotation annotation_body annotation_arguments name_chain dot_name pairs_or_value first_pair named_text
level-parts in_arguments e = refl
level-parts in_reference e = refl
level-parts in_brackets e = absurd cc
level-parts in_constant e = absurd cc

pub level-class : (b : Mode) → angular b ≡ true → effect b (turn base.Named class_type) ≡ level
unfolding class_type next_part named_part name annotations annotation annotation_body annotation_arguments name_chain dot_name pairs_or_value first_pair named_text
level-class in_arguments e = refl
level-class in_reference e = refl
level-class in_brackets e = absurd cc
level-class in_constant e = absurd cc

pub level-dim : (b : Mode) → angular b ≡ true → effect b dim ≡ level
unfolding dim annotations annotation annotation_body annotation_arguments name_chain dot_name name pairs_or_value first_pair named_text
level-dim in_arguments e = refl
level-dim in_reference e = refl
level-dim in_brackets e = absurd cc
level-dim in_constant e = absurd cc

pub level-dims : (b : Mode) → angular b ≡ true → effect b (many dim) ≡ level
unfolding dim annotations annotation annotation_body annotation_arguments name_chain dot_name name pairs_or_value first_pair named_text
level-dims in_arguments e = refl
level-dims in_reference e = refl
level-dims in_brackets e = absurd cc
level-dims in_constant e = absurd cc

pub level-primitive : (b : Mode) → angular b ≡ true → effect b (turn base.Primitive primitive_type) ≡ level
unfolding primitive_type
level-primitive in_arguments e = refl
level-primitive in_reference e = refl
level-primitive in_brackets e = absurd cc
level-primitive in_constant e = absurd cc

pub level-extends : (b : Mode) → angular b ≡ true → effect b (keyword token.extends) ≡ level
level-extends in_arguments e = refl
level-extends in_reference e = refl
level-extends in_brackets e = absurd cc
level-extends in_constant e = absurd cc

pub level-super : (b : Mode) → angular b ≡ true → effect b (keyword token.super) ≡ level
level-super in_arguments e = refl
level-super in_reference e = refl
level-super in_brackets e = absurd cc
level-super in_constant e = absurd cc

pub level-question : (b : Mode) → angular b ≡ true → effect b (sign token.question) ≡ level
level-question in_arguments e = refl
level-question in_reference e = refl
level-question in_brackets e = absurd cc
level-question in_constant e = absurd cc

pub level-comma-more : effect in_arguments (many next_argument) ≡ level
unfolding next_argument type_argument wildcard wildcard_bound annotated_reference reference class_array class_type next_part named_part dim primitive_array primitive_type name annotations annotation annotation_body annotation_arguments name_chain dot_name pairs_or_value first_pair named_text
level-comma-more = refl

pub level-listed : effect in_arguments (turn first_and_rest (pair type_argument (many next_argument))) ≡ level
unfolding next_argument type_argument wildcard wildcard_bound annotated_reference reference class_array class_type next_part named_part dim primitive_array primitive_type name annotations annotation annotation_body annotation_arguments name_chain dot_name pairs_or_value first_pair named_text
level-listed = refl

pub level-argument : (b : Mode) → angular b ≡ true → effect b type_argument ≡ level
unfolding next_argument type_argument wildcard wildcard_bound annotated_reference reference class_array class_type next_part named_part dim primitive_array primitive_type name annotations annotation annotation_body annotation_arguments name_chain dot_name pairs_or_value first_pair named_text
level-argument in_arguments e = refl
level-argument in_reference e = refl
level-argument in_brackets e = absurd cc
level-argument in_constant e = absurd cc

-- ---- annotations

plants-name : (h g : ℕ) (b : Mode) → Plants h g b name
unfolding name
plants-name h g b = plants-terminal h g b names refl

plants-dot-name : (h g : ℕ) (b : Mode) → angular b ≡ true → Plants h g b dot_name
unfolding dot_name
plants-dot-name h g b a = plants-pair h g b (sign token.dot) name (level-dot b a) (plants-terminal h g b (69 ∷ []) refl) (plants-name h g b)

plants-chain : (h g : ℕ) (b : Mode) → angular b ≡ true → Plants h g b name_chain
unfolding name_chain
plants-chain h g b a = plants-pair h g b name (many dot_name) (level-name b a) (plants-name h g b) (plants-many h g b dot_name (level-names-more b a) (plants-dot-name h g b a))

opens-round : (b : Mode) → angular b ≡ true → effect b (terminal (61 ∷ [])) ≡ opening 62
opens-round in_arguments e = refl
opens-round in_reference e = refl
opens-round in_brackets e = absurd cc
opens-round in_constant e = absurd cc

opens-square : (b : Mode) → angular b ≡ true → effect b (terminal (65 ∷ [])) ≡ opening 66
opens-square in_arguments e = refl
opens-square in_reference e = refl
opens-square in_brackets e = absurd cc
opens-square in_constant e = absurd cc

closes-round : effect in_brackets (either (turn no_pairs (sign token.close_parenthesis)) pairs_or_value) ≡ closing 62
unfolding pairs_or_value first_pair named_text
closes-round = refl

plants-values : (h g : ℕ) (b : Mode) → angular b ≡ true → Plants h g b annotation_arguments
unfolding annotation_arguments
plants-values h g b a = plants-closed h g b 61 (either (turn no_pairs (sign token.close_parenthesis)) pairs_or_value) (opens-round b a) refl refl closes-round

plants-body : (h g : ℕ) (b : Mode) → angular b ≡ true → Plants h g b annotation_body
unfolding annotation_body
plants-body h g b a = plants-pair h g b name_chain (maybe annotation_arguments) (level-chain b a) (plants-chain h g b a) (plants-values h g b a)

first-list : (h : ℕ) (t : Symbol) (m : ℕ) → has (75 ∷ []) t.sort ≡ true → Begins (WholeAt h) (BegunAt h) annotation (t ∷ []) m → ⊥
unfolding annotation
first-list h t m e b =
    not_both (has ats t.sort) (Begins-head (WholeAt h) (BegunAt h) (full-at h) (heads-at h) (bheads-at h) annotation t [] m (t ∷ []) refl b) (disjoint-has (75 ∷ []) ats t.sort refl e)

-- behind the first symbol
rest-there : (u : Symbol) (us : List Symbol) (t : Symbol) (a c : List Symbol) (x : Symbol) → u ∷ us ++ t ∷ [] ≡ a ++ c → a ≡ x ∷ [] → (u ≡ x) × (c ≡ us ++ t ∷ [])
rest-there u us t a c x e p = let z : u ∷ us ++ t ∷ [] ≡ x ∷ c = e ∙ ap (λ (y : List Symbol). y ++ c) p in (cc, cc)

plants-mark : (h g : ℕ) (b : Mode) → angular b ≡ true → Plants h g b annotation
unfolding annotation
plants-mark h g b a at_list [] t m s p vs c fill = absurd (first-list h t m s.7 p)
plants-mark h g b a at_mark [] t m s p vs c fill = (c, omega arith, Begins-up (WholeAt g) (WholeAt (above h g)) (BegunAt g) (BegunAt (above h g)) (whole-second h g) (begun-second h g) annotation (t ∷ vs) c fill)
plants-mark h g b a i (u ∷ us) t m s p vs c fill = behind-first p
  where
    behind-first : Begins (WholeAt h) (BegunAt h) annotation (u ∷ us ++ t ∷ []) m → Filled h g annotation (u ∷ us ++ t ∷ vs) c
    behind-first (inl (z, inl e)) = absurd cc
    behind-first (inl (z, inr q)) = absurd (let y : us ++ t ∷ [] ≡ [] = (let w = q.1 in cc) in let x = (nil_parts us (t ∷ []) (sym y)).1 in cc)
    behind-first (inr q) =
        let r = rest-there u us t q.0 q.1 q.2 q.3 q.4.0 in
        let l : Levels b level q.0 = subst (λ (x : Effect). Levels b x q.0) (level-mark-start b a) (form-levels (WholeAt h) (levels-at h) b (terminal ats) q.0 q.2 q.4) in
        let split : u ∷ us ≡ q.0 ++ us = sym (ap (λ (y : List Symbol). y ++ us) q.4.0 ∙ ap (λ (y : Symbol). y ∷ us) (sym r.0)) in
        let there = spot-behind b i q.0 us t l (subst (λ (y : List Symbol). Spot b i y t) split s) in
        let k = plants-body h g b a i us t m there (subst (λ (y : List Symbol). Begins (WholeAt h) (BegunAt h) annotation_body y m) r.1 q.5) vs c fill in
        (k.0, k.1, inr (q.0, us ++ t ∷ vs, q.2, longer-by (u ∷ us) q.0 us vs t split, q.4, k.2))

plants-marked : (h g : ℕ) (b : Mode) → angular b ≡ true → {A : Type 0} (f : Form A) → Plants h g b f → Plants h g b (behind annotations f)
unfolding annotations
plants-marked h g b a f p = plants-pair h g b annotations f (level-marks b a) (plants-many h g b annotation (level-marks b a) (plants-mark h g b a)) p

-- ---- types

-- lists of type arguments of this height
abbrev PlantsLists : ℕ → ℕ → Type 0
PlantsLists h g = (b : Mode) → angular b ≡ true → Plants h g b (nest type_arguments)

plants-part : (h g : ℕ) → PlantsLists h g → (b : Mode) → angular b ≡ true → Plants h g b named_part
unfolding named_part
plants-part h g list b a = plants-pair h g b name (maybe (nest type_arguments)) (level-name b a) (plants-name h g b) (list b a)

plants-next-part : (h g : ℕ) → PlantsLists h g → (b : Mode) → angular b ≡ true → Plants h g b next_part
unfolding next_part
plants-next-part h g list b a = plants-pair h g b (sign token.dot) (behind annotations named_part) (level-dot b a) (plants-terminal h g b (69 ∷ []) refl) (plants-marked h g b a named_part (plants-part h g list b a))

plants-parts : (h g : ℕ) → PlantsLists h g → (b : Mode) → angular b ≡ true → Plants h g b (many next_part)
plants-parts h g list b a = plants-many h g b next_part (level-parts b a) (plants-next-part h g list b a)

plants-class : (h g : ℕ) → PlantsLists h g → (b : Mode) → angular b ≡ true → Plants h g b class_type
unfolding class_type
plants-class h g list b a = plants-pair h g b named_part (many next_part) (level-part b a) (plants-part h g list b a) (plants-parts h g list b a)

plants-square : (h g : ℕ) (b : Mode) → angular b ≡ true → Plants h g b (behind (sign token.open_bracket) (turn array_around (sign token.close_bracket)))
plants-square h g b a = plants-closed h g b 65 (turn array_around (sign token.close_bracket)) (opens-square b a) refl refl refl

plants-dim : (h g : ℕ) (b : Mode) → angular b ≡ true → Plants h g b dim
unfolding dim
plants-dim h g b a = plants-marked h g b a (behind (sign token.open_bracket) (turn array_around (sign token.close_bracket))) (plants-square h g b a)

plants-dims : (h g : ℕ) (b : Mode) → angular b ≡ true → Plants h g b (many dim)
plants-dims h g b a = plants-many h g b dim (level-dims b a) (plants-dim h g b a)

plants-class-array : (h g : ℕ) → PlantsLists h g → (b : Mode) → angular b ≡ true → Plants h g b class_array
unfolding class_array
plants-class-array h g list b a = plants-pair h g b (turn base.Named class_type) (many dim) (level-class b a) (plants-class h g list b a) (plants-dims h g b a)

plants-primitive : (h g : ℕ) (b : Mode) → Plants h g b (turn base.Primitive primitive_type)
unfolding primitive_type
plants-primitive h g b = plants-terminal h g b primitive_sorts refl

plants-primitive-array : (h g : ℕ) (b : Mode) → angular b ≡ true → Plants h g b primitive_array
unfolding primitive_array
plants-primitive-array h g b a =
    plants-pair h g b (turn base.Primitive primitive_type) (turn first_and_rest (pair dim (many dim))) (level-primitive b a) (plants-primitive h g b)
    (plants-pair h g b dim (many dim) (level-dim b a) (plants-dim h g b a) (plants-dims h g b a))

plants-reference : (h g : ℕ) → PlantsLists h g → (b : Mode) → angular b ≡ true → Plants h g b reference
unfolding reference
plants-reference h g list b a = plants-either h g b class_array primitive_array (plants-class-array h g list b a) (plants-primitive-array h g b a)

plants-annotated : (h g : ℕ) → PlantsLists h g → (b : Mode) → angular b ≡ true → Plants h g b annotated_reference
unfolding annotated_reference
plants-annotated h g list b a = plants-marked h g b a reference (plants-reference h g list b a)

plants-bound : (h g : ℕ) → PlantsLists h g → (b : Mode) → angular b ≡ true → Plants h g b wildcard_bound
unfolding wildcard_bound
plants-bound h g list b a i us t m s (inl p) vs c fill =
    let r = plants-pair h g b (keyword token.extends) annotated_reference (level-extends b a) (plants-terminal h g b (word token.extends ∷ []) refl) (plants-annotated h g list b a) i us t m s p vs c fill in (r.0, r.1, inl r.2)
plants-bound h g list b a i us t m s (inr p) vs c fill =
    let r = plants-pair h g b (keyword token.super) annotated_reference (level-super b a) (plants-terminal h g b (word token.super ∷ []) refl) (plants-annotated h g list b a) i us t m s p vs c fill in (r.0, r.1, inr r.2)

plants-wildcard : (h g : ℕ) → PlantsLists h g → (b : Mode) → angular b ≡ true → Plants h g b wildcard
unfolding wildcard
plants-wildcard h g list b a = plants-pair h g b (sign token.question) (maybe wildcard_bound) (level-question b a) (plants-terminal h g b (78 ∷ []) refl) (plants-bound h g list b a)

plants-argument : (h g : ℕ) → PlantsLists h g → (b : Mode) → angular b ≡ true → Plants h g b type_argument
unfolding type_argument
plants-argument h g list b a =
    plants-marked h g b a (either wildcard (turn type_in reference)) (plants-either h g b wildcard (turn type_in reference) (plants-wildcard h g list b a) (plants-reference h g list b a))

comma-level : effect in_arguments (sign token.comma) ≡ level
comma-level = refl

plants-next-argument : (h g : ℕ) → PlantsLists h g → Plants h g in_arguments next_argument
unfolding next_argument
plants-next-argument h g list = plants-pair h g in_arguments (sign token.comma) type_argument comma-level (plants-terminal h g in_arguments (68 ∷ []) refl) (plants-argument h g list in_arguments refl)

plants-inner : (h g : ℕ) → PlantsLists h g → Plants h g in_arguments (before (turn first_and_rest (pair type_argument (many next_argument))) (sign token.greater_than))
plants-inner h g list =
    plants-pair h g in_arguments (turn first_and_rest (pair type_argument (many next_argument))) (sign token.greater_than) level-listed
    (plants-pair h g in_arguments type_argument (many next_argument) (level-argument in_arguments refl) (plants-argument h g list in_arguments refl) (plants-many h g in_arguments next_argument level-comma-more (plants-next-argument h g list)))
    (plants-terminal h g in_arguments (74 ∷ []) refl)

opens-list : (b : Mode) → angular b ≡ true → effect b (terminal (75 ∷ [])) ≡ opening 74
opens-list in_arguments e = refl
opens-list in_reference e = refl
opens-list in_brackets e = absurd cc
opens-list in_constant e = absurd cc

-- behind the `<` of the list
in-form : (h g : ℕ) → PlantsLists h g → (b : Mode) → angular b ≡ true → (i : Hole) (u : Symbol) (us : List Symbol) (t : Symbol) (m : ℕ) → Spot b i (u ∷ us) t → Begins (WholeAt h) (BegunAt h) arguments_form (u ∷ us ++ t ∷ []) m
    → (vs : List Symbol) (c : ℕ) → Fills g i (t ∷ vs) c → Filled h g arguments_form (u ∷ us ++ t ∷ vs) c
unfolding arguments_form
in-form h g list b a i u us t m s (inl (z, inl e)) vs c fill = absurd cc
in-form h g list b a i u us t m s (inl (z, inr q)) vs c fill = absurd (let y : us ++ t ∷ [] ≡ [] = (let w = q.1 in cc) in let x = (nil_parts us (t ∷ []) (sym y)).1 in cc)
in-form h g list b a i u us t m s (inr q) vs c fill =
    let r = rest-there u us t q.0 q.1 q.2 q.3 q.4.0 in
    let k = s.0 in
    let ks = s.1 in
    let l : Levels b (opening 74) q.0 = subst (λ (x : Effect). Levels b x q.0) (opens-list b a) (form-levels (WholeAt h) (levels-at h) b (terminal (75 ∷ [])) q.0 q.2 q.4) in
    let split : u ∷ us ≡ q.0 ++ us = sym (ap (λ (y : List Symbol). y ++ us) q.4.0 ∙ ap (λ (y : Symbol). y ∷ us) (sym r.0)) in
    let y = leads-split q.0 us (k ∷ ks) (s.2 ∷ s.3) (subst (λ (x : List Symbol). Leads x (k ∷ ks) (s.2 ∷ s.3)) split s.5) in
    let inner : Leads us (74 ∷ k ∷ ks) (s.2 ∷ s.3) = subst (λ (x : List ℕ). Leads us x (s.2 ∷ s.3)) (leads-same q.0 (k ∷ ks) y.0 (74 ∷ k ∷ ks) y.1 (l k ks s.4)) y.2 in
    let p = plants-inner h g list i us t m (74, k ∷ ks, s.2, s.3, refl, inner, s.6, s.7) (subst (λ (x : List Symbol). Begins (WholeAt h) (BegunAt h) (before (turn first_and_rest (pair type_argument (many next_argument))) (sign token.greater_than)) x m) r.1 q.5) vs c fill in
    (p.0, p.1, inr (q.0, us ++ t ∷ vs, q.2, longer-by (u ∷ us) q.0 us vs t split, q.4, p.2))

pub plants-list : (h g : ℕ) → PlantsLists h g
plants-list h g b a i us t m s (inl p) vs c fill = none-there us t p.0
plants-list h g b a at_list [] t m s (inr q) vs c fill = (c, omega arith, inr (t, vs, fill.0, refl, fill.1, begun-second h g type_arguments (t ∷ vs) fill.0 fill.2))
plants-list h g b a at_mark [] t m s (inr q) vs c fill =
    absurd (not_both (has ats t.sort) s.7 (disjoint-has (75 ∷ []) ats t.sort refl (bheads-at h type_arguments t [] q.2 q.5)))
plants-list zero g b a i (u ∷ us) t m s (inr q) vs c fill = absurd q.5
plants-list (suc h) g b a i (u ∷ us) t m s (inr q) vs c fill =
    let r = in-form h g (plants-list h g) b a i u us t q.2 s q.5 vs c fill in
    (suc r.0, omega (arith, r.1), inr (u, us ++ t ∷ vs, r.0, refl, refl, r.2))

-- a type with arguments before its `::`
pub plants-type : (h g : ℕ) → Plants h g in_reference reference_form
unfolding reference_form
plants-type h g =
    plants-pair h g in_reference (nest type_arguments) (pair (many next_part) (pair (many dim) (sign token.double_colon))) refl (plants-list h g in_reference refl)
    (plants-pair h g in_reference (many next_part) (pair (many dim) (sign token.double_colon)) (level-parts in_reference refl) (plants-parts h g (plants-list h g) in_reference refl)
    (plants-pair h g in_reference (many dim) (sign token.double_colon) (level-dims in_reference refl) (plants-dims h g in_reference refl) (plants-terminal h g in_reference (72 ∷ []) refl)))
