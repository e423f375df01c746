-- What is read over a whole list of type arguments with its `<` as an operator.
use Rattle.std.proofs.Common.{◌≡◌, ℕ, zero, suc, ◌≤◌, arith, Bool, true, false, cond, List, [], ◌∷◌, ◌++◌, ◌⊎◌, refl, sym, ap, subst, ◌∙◌, inl, inr}
use Rattle.decl_tree.specs.declared.type_text.TypeText.{TypeText}
use Rattle.decl_grammar.specs.declared.symbol.Symbol.{Symbol}
use Rattle.decl_grammar.specs.Symbols.{operator}
use Rattle.decl_grammar.specs.TokenNames as token
use Rattle.decl_grammar.specs.Form.{Stands, Freedom, is_value, opened, between, one_of, bracketed, arguments, annotated, created, type_reference, tested, tested_name, tested_dim, type_arguments, created_arguments, array_value, nested_annotation, first_name, constant_value, expression_part, nested_type, modifiers, plain_modifiers, static_word, import_rest, enum_rest, param_rest, first_rest, value_and_rest, expression_rest, initialiser, value_end, constant_items, constant_chain, pair, turn, many, nest, Begins}
use Rattle.decl_grammar.specs.Types.{sign, before, first_and_rest, type_argument, next_argument, arguments_form, annotations, annotation, annotation_body, annotation_arguments, name, dot_name, name_chain, wildcard, wildcard_bound, annotated_reference, reference, class_array, class_type, named_part, next_part, dim, primitive_array, primitive_type, pairs_or_value, first_pair}
use Rattle.decl_grammar.specs.Expressions.{part_symbols, step}
use Rattle.decl_grammar.specs.Rule.{rule, WholeAt}
use Rattle.decl_grammar.proofs.Heights.{Whole, Started}
use Rattle.decl_grammar.proofs.OpenBrackets.{Leads}
use Rattle.decl_grammar.proofs.Effects.{in_arguments}
use Rattle.decl_grammar.proofs.EffectLemmas.{form-levels}
use Rattle.decl_grammar.proofs.Closed.{levels-at}
use Rattle.decl_grammar.proofs.Crossing.{same, crosses, Crossed, NestCrosses, same-value, terminal-crosses, form-crosses}
use Rattle.decl_grammar.proofs.RowCrosses.{rest-crosses, value-crosses, end-crosses}

at-most-one : (s : Stands) (ks : List ℕ) (k : ℕ) → k ≡ 0 → opened (expression_part s (one_of ks)) k ≤ 1
at-most-one s ks k e = go (is_value s)
  where
    go : (c : Bool) → cond c (suc k) k ≤ 1
    go true = omega (arith, e)
    go false = omega (arith, e)

pub crosses-at : (v : Bool) (h : ℕ) → NestCrosses v h
crosses-at v zero m r d us vs n l b = absurd b
crosses-at v (suc h) (expression_part s (one_of ks)) r d us vs n l b = let p = terminal-crosses v h ks d us vs n l b in inl (p.0, at-most-one s ks n p.1)
crosses-at v (suc h) (value_and_rest s) r d us vs n l b =
    form-crosses v h (crosses-at v h) (rule (value_and_rest s)) (subst (λ (c : Bool). crosses c (rule (value_and_rest s)) ≡ true) (same-value v (is_value s) r) (value-crosses s)) d us vs n l b
crosses-at v (suc h) (expression_rest s w a) r d us vs n l b =
    form-crosses v h (crosses-at v h) (rule (expression_rest s w a)) (subst (λ (c : Bool). crosses c (rule (expression_rest s w a)) ≡ true) (same-value v (is_value s) r) (rest-crosses s w a)) d us vs n l b
crosses-at v (suc h) (value_end s) r d us vs n l b =
    form-crosses v h (crosses-at v h) (rule (value_end s)) (subst (λ (c : Bool). crosses c (rule (value_end s)) ≡ true) (same-value v (is_value s) r) (end-crosses s)) d us vs n l b
crosses-at v (suc h) (expression_part s (bracketed ks)) r d us vs n l b = absurd cc
crosses-at v (suc h) (expression_part s arguments) r d us vs n l b = absurd cc
crosses-at v (suc h) (expression_part s annotated) r d us vs n l b = absurd cc
crosses-at v (suc h) (expression_part s created) r d us vs n l b = absurd cc
crosses-at v (suc h) (expression_part s type_reference) r d us vs n l b = absurd cc
crosses-at v (suc h) (expression_part s tested) r d us vs n l b = absurd cc
crosses-at v (suc h) (expression_part s tested_name) r d us vs n l b = absurd cc
crosses-at v (suc h) (expression_part s tested_dim) r d us vs n l b = absurd cc
crosses-at v (suc h) type_arguments r d us vs n l b = absurd cc
crosses-at v (suc h) created_arguments r d us vs n l b = absurd cc
crosses-at v (suc h) array_value r d us vs n l b = absurd cc
crosses-at v (suc h) nested_annotation r d us vs n l b = absurd cc
crosses-at v (suc h) first_name r d us vs n l b = absurd cc
crosses-at v (suc h) constant_value r d us vs n l b = absurd cc
crosses-at v (suc h) nested_type r d us vs n l b = absurd cc
crosses-at v (suc h) modifiers r d us vs n l b = absurd cc
crosses-at v (suc h) plain_modifiers r d us vs n l b = absurd cc
crosses-at v (suc h) static_word r d us vs n l b = absurd cc
crosses-at v (suc h) import_rest r d us vs n l b = absurd cc
crosses-at v (suc h) enum_rest r d us vs n l b = absurd cc
crosses-at v (suc h) param_rest r d us vs n l b = absurd cc
crosses-at v (suc h) first_rest r d us vs n l b = absurd cc
crosses-at v (suc h) initialiser r d us vs n l b = absurd cc
crosses-at v (suc h) constant_items r d us vs n l b = absurd cc
crosses-at v (suc h) constant_chain r d us vs n l b = absurd cc

-- a list of type arguments is its `<`, and what leads to the end of the list
pub arguments-split : (us : List Symbol) (x : List TypeText) → Whole type_arguments us x → (t : Symbol) × (u : List Symbol) × (us ≡ t ∷ u) × Leads u (74 ∷ []) []
unfolding arguments_form type_argument next_argument annotations annotation annotation_body annotation_arguments name dot_name name_chain wildcard wildcard_bound annotated_reference reference class_array class_type named_part next_part dim primitive_array primitive_type pairs_or_value first_pair
arguments-split us x (zero, is) = absurd is
arguments-split us x (suc h, is) =
    let g = before (turn first_and_rest (pair type_argument (many next_argument))) (sign token.greater_than) in
    (is.0.0, is.1.1, is.1.2 ∙ ap (λ (u : List Symbol). u ++ is.1.1) is.1.3.0, form-levels (WholeAt h) (levels-at h) in_arguments g is.1.1 is.0.1 is.1.4 [])

-- a part that is one symbol
one-whole : (s : Stands) (ks : List ℕ) (us : List Symbol) (x : Unit {0}) → Whole (expression_part s (one_of ks)) us x → (t : Symbol) × (us ≡ t ∷ [])
one-whole s ks us x (zero, is) = absurd is
one-whole s ks us x (suc h, is) = (is.0, is.1.0)

one-begun : (s : Stands) (ks : List ℕ) (us : List Symbol) (n : ℕ) → Started (expression_part s (one_of ks)) us n → (us ≡ []) ⊎ ((t : Symbol) × (us ≡ t ∷ []))
one-begun s ks us n (zero, b) = absurd b
one-begun s ks us n (suc h, (z, inl e)) = inl e
one-begun s ks us n (suc h, (z, inr p)) = inr (p.0, p.1)

too-short : (t : Symbol) (u vs : List Symbol) → Leads u (74 ∷ []) [] → (t ∷ u ++ vs ≡ []) ⊎ ((q : Symbol) × (t ∷ u ++ vs ≡ q ∷ [])) → ⊥
too-short t u vs l (inl e) = cc
too-short t [] vs l (inr e) = cc
too-short t (y ∷ u) vs l (inr e) = cc

nest-crosses : (s : Stands) (w : Freedom) (u vs : List Symbol) (n : ℕ) → Leads u (74 ∷ []) [] → Begins Whole Started (nest (expression_rest s w between)) (u ++ vs) n → Crossed (is_value s) vs n
nest-crosses s w [] vs n l b = absurd cc
nest-crosses s w (y ∷ u) vs n l (inl b) = absurd (let z = b.0 in cc)
nest-crosses s w (y ∷ u) vs n l (inr q) =
    subst (λ (k : ℕ). Crossed (is_value s) vs k) (sym q.4)
    (crosses-at (is_value s) q.5.0 (expression_rest s w between) (self (is_value s)) 0 (y ∷ u) vs q.2 l q.5.1)
  where
    self : (b : Bool) → same b b ≡ true
    self true = refl
    self false = refl

behind-one : (t z : Symbol) (u a c : List Symbol) → t ∷ u ≡ a ++ c → a ≡ z ∷ [] → c ≡ u
behind-one t z u a c e d = let p : t ∷ u ≡ z ∷ c = e ∙ ap (λ (b : List Symbol). b ++ c) d in cc

-- Type arguments whose `<` is taken as an operator: behind them comes what may stand behind an operator `>`.
pub arguments-crossed : (s : Stands) (w : Freedom) (us vs : List Symbol) (x : List TypeText) (n : ℕ) → Whole type_arguments us x → Begins Whole Started (step s (one_of (operator token.less_than ∷ [])) w between) (us ++ vs) n → Crossed (is_value s) vs n
unfolding step part_symbols
arguments-crossed s w us vs x n whole b =
    let p = arguments-split us x whole in
    go p.0 p.1 p.3 (subst (λ (u : List Symbol). Begins Whole Started (step s (one_of (operator token.less_than ∷ [])) w between) (u ++ vs) n) p.2 b)
  where
    go : (t : Symbol) (u : List Symbol) → Leads u (74 ∷ []) [] → Begins Whole Started (step s (one_of (operator token.less_than ∷ [])) w between) (t ∷ u ++ vs) n → Crossed (is_value s) vs n
    go t u l (inl (inl b)) = absurd (too-short t u vs l (inl b.0))
    go t u l (inl (inr q)) = absurd (too-short t u vs l (one-begun s (operator token.less_than ∷ []) (t ∷ u ++ vs) q.2 q.5))
    go t u l (inr q) =
        let single = one-whole s (operator token.less_than ∷ []) q.0 q.4.0.1 q.4.1.0 in
        nest-crosses s w u vs n l (subst (λ (c : List Symbol). Begins Whole Started (nest (expression_rest s w between)) c n) (behind-one t single.0 (u ++ vs) q.0 q.1 q.3 single.1) q.5)
