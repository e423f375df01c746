-- What a row has open over the beginning of a type with arguments: at most the part that is read, or what is begun at a `<` or an `@` of the type.
use Rattle.std.proofs.Common.{◌≡◌, ℕ, zero, suc, ◌≤◌, ◌+◌, arith, Bool, true, false, cond, List, [], ◌∷◌, ◌++◌, refl, sym, subst, inl, inr}
use Rattle.decl_grammar.specs.declared.symbol.Symbol.{Symbol}
use Rattle.decl_grammar.specs.Reading.{has}
use Rattle.decl_grammar.specs.Form.{Stands, Part, is_value, opened, alone, paired, listed, defaulted, assigned, one_of, bracketed, arguments, annotated, created, type_reference, tested, tested_name, tested_dim, type_arguments, created_arguments, array_value, nested_annotation, first_name, constant_value, expression_part, nested_type, modifiers, plain_modifiers, static_word, import_rest, enum_rest, param_rest, first_rest, value_and_rest, expression_rest, initialiser, value_end, constant_items, constant_chain, pair, many, nest, Begins}
use Rattle.decl_grammar.specs.Types.{sign, name, name_at, dot_name, name_chain, dim}
use Rattle.decl_grammar.specs.Expressions.{annotation_over, annotated_form, value_or_end, assigned_end}
use Rattle.decl_grammar.specs.Rule.{rule, WholeAt, BegunAt}
use Rattle.decl_grammar.proofs.OneToken.{both, within-has}
use Rattle.decl_grammar.proofs.OpenBrackets.{stops, reference_stops, Leads}
use Rattle.decl_grammar.proofs.Effects.{in_arguments, level, Levels, Mode, in_brackets, in_constant, in_reference, effect}
use Rattle.decl_grammar.proofs.EffectLemmas.{form-levels}
use Rattle.decl_grammar.proofs.Closed.{levels-at}
use Rattle.decl_grammar.proofs.Crossing.{same, same-value}
use Rattle.decl_grammar.proofs.TypeEnds.{flat, flat-open}
use Rattle.decl_grammar.proofs.TypeParts.{lists, no-reference}
use Rattle.decl_grammar.proofs.Plants.{angular}
use Rattle.decl_grammar.proofs.Planted.{level-dims}
use Rattle.decl_grammar.proofs.TypesHeld.{Held, extra, held-more, holds-dims, holds-flat, holds-list, holds-mark, holds-pair, holds-reference, none-held}
use Rattle.decl_grammar.proofs.RowForms.{HeldNests, form-holds, held_part, holds, list-second, reached, stops-there}
use Rattle.decl_grammar.proofs.RowHolds.{closes-row, rest-holds, value-holds}
use Rattle.decl_grammar.specs.TokenNames as token

-- ---- declarators

abbrev EndHeld : ℕ → Type 0
EndHeld h = (d : ℕ) (us : List Symbol) (n : ℕ) (ms : List ℕ) → Leads us (lists d) ms → Begins (WholeAt h) (BegunAt h) (nest (value_end assigned)) us n → Held 0 d us n

equals-stops : (d : ℕ) (a us : List Symbol) (ms : List ℕ) (x : Symbol) → Leads (a ++ us) (lists d) ms → a ≡ x ∷ [] → has (73 ∷ []) x.sort ≡ true → ⊥
equals-stops d a us ms x l e k = stops-there d x us ms (within-has (73 ∷ []) stops x.sort refl k) (subst (λ (u : List Symbol). Leads (u ++ us) (lists d) ms) e l)

rest-held : (h : ℕ) → EndHeld h → (d : ℕ) (us : List Symbol) (n : ℕ) (ms : List ℕ) → Leads us (lists d) ms → Begins (WholeAt h) (BegunAt h) value_or_end us n → Held 0 d us n
unfolding value_or_end
rest-held h ih d us n ms l (inl (inl b)) = none-held 0 d us n b.0
rest-held h ih d us n ms l (inl (inr q)) = absurd (equals-stops d q.0 q.1 ms q.2 (subst (λ (u : List Symbol). Leads u (lists d) ms) q.3 l) q.4.0 q.4.1)
rest-held h ih d us n ms l (inr b) = ih d us n ms l b

level-name-at : (b : Mode) → angular b ≡ true → effect b name_at ≡ level
level-name-at in_arguments e = refl
level-name-at in_reference e = refl
level-name-at in_brackets e = absurd cc
level-name-at in_constant e = absurd cc

name-at-flat : flat name_at ≡ true
name-at-flat = refl

declarator-held : (h : ℕ) → EndHeld h → (d : ℕ) (us : List Symbol) (n : ℕ) (ms : List ℕ) → Leads us (lists d) ms → Begins (WholeAt h) (BegunAt h) (pair name_at (pair (many dim) value_or_end)) us n → Held 0 d us n
declarator-held h ih =
    holds-pair h name_at (pair (many dim) value_or_end) level-name-at (holds-flat h name_at name-at-flat)
    (holds-pair h (many dim) value_or_end level-dims (holds-dims h) (rest-held h ih))

comma-second : (h : ℕ) → EndHeld h → (d : ℕ) (us : List Symbol) (n : ℕ) (ms : List ℕ) (a c : List Symbol) (x : Symbol) → us ≡ a ++ c → Leads us (lists d) ms → a ≡ x ∷ [] → has (68 ∷ []) x.sort ≡ true
    → Begins (WholeAt h) (BegunAt h) (pair name_at (pair (many dim) value_or_end)) c n → Held 0 d us n
comma-second h ih zero us n ms a c x s l p k b =
    absurd (no-reference x c [] ms (within-has (68 ∷ []) reference_stops x.sort refl k) (subst (λ (u : List Symbol). Leads (u ++ c) (lists zero) ms) p (subst (λ (u : List Symbol). Leads u (lists zero) ms) s l)))
comma-second h ih (suc d) us n ms a c x s l p k b =
    list-second 0 d us a c n ms level refl s l (subst (λ (u : List Symbol). Levels in_arguments level u) (sym p) (form-levels (WholeAt h) (levels-at h) in_arguments (sign token.comma) (x ∷ []) x (refl, k)))
    (λ k m. declarator-held h ih k c n ms m b)

end-form-held : (h : ℕ) → EndHeld h → (d : ℕ) (us : List Symbol) (n : ℕ) (ms : List ℕ) → Leads us (lists d) ms → Begins (WholeAt h) (BegunAt h) assigned_end us n → Held 0 d us n
unfolding assigned_end
end-form-held h ih d us n ms l (inl b) = none-held 0 d us n b.0
end-form-held h ih d us n ms l (inr (inl b)) = none-held 0 d us n b.0
end-form-held h ih d us n ms l (inr (inr q)) = comma-second h ih d us n ms q.0 q.1 q.2 q.3 l q.4.0 q.4.1 q.5

end-held : (h : ℕ) → EndHeld h
end-held h d us n ms l (inl p) = none-held 0 d us n p.1
end-held zero d us n ms l (inr q) = absurd q.5
end-held (suc h) d us n ms l (inr q) = subst (λ (k : ℕ). Held 0 d us k) (sym q.4) (end-form-held h (end-held h) d us q.2 ms l q.5)

-- ---- all rows

opened-part : (s : Stands) (p : Part) (v : Bool) → is_value s ≡ v → (k : ℕ) → opened (expression_part s p) k ≤ extra v + k
opened-part s p v e k = go (is_value s) v e
  where
    go : (c v : Bool) → c ≡ v → cond c (suc k) k ≤ extra v + k
    go true true e = omega arith
    go false false e = omega arith
    go true false e = absurd cc
    go false true e = absurd cc

flat-annotated : (h : ℕ) (us : List Symbol) (n : ℕ) → Begins (WholeAt h) (BegunAt h) annotated_form us n → n ≡ 0
unfolding annotated_form annotation_over name_chain name dot_name
flat-annotated h us n b = flat-open (WholeAt h) (BegunAt h) annotated_form refl us n b

part-held : (h : ℕ) (s : Stands) (p : Part) → held_part p ≡ true → (d : ℕ) (us : List Symbol) (k : ℕ) (ms : List ℕ) → Leads us (lists d) ms → BegunAt h (expression_part s p) us k → Held 0 d us k
part-held zero s p e d us k ms l b = absurd b
part-held (suc h) s (one_of ks) e d us k ms l b = none-held 0 d us k b.0
part-held (suc h) s (bracketed ks) e d us k ms l b = none-held 0 d us k b.0
part-held (suc h) s annotated e d us k ms l b = none-held 0 d us k (flat-annotated h us k b)
part-held (suc h) s arguments e d us k ms l b = holds-list h d us k ms l b
part-held (suc h) s type_reference e d us k ms l b = holds-reference h d us k ms l b
part-held (suc h) s created e d us k ms l b = absurd cc
part-held (suc h) s tested e d us k ms l b = absurd cc
part-held (suc h) s tested_name e d us k ms l b = absurd cc
part-held (suc h) s tested_dim e d us k ms l b = absurd cc

marked-held : (h : ℕ) (d : ℕ) (us : List Symbol) (n : ℕ) (ms : List ℕ) → Leads us (lists d) ms → Begins (WholeAt h) (BegunAt h) (nest nested_annotation) us n → Held 1 d us n
marked-held h d us n ms l (inl p) = none-held 1 d us n p.1
marked-held zero d us n ms l (inr q) = absurd q.5
marked-held (suc h) d us n ms l (inr q) = held-more 0 1 d us q.2 n (omega (arith, q.4)) refl (holds-mark h d us q.2 ms l q.5)

pub held-at : (v : Bool) (h : ℕ) → HeldNests v h
held-at v h (expression_part s p) e d us n ms l (inl b) = none-held (extra v) d us n b.1
held-at v h (expression_part s p) e d us n ms l (inr q) =
    let z = both (same v (is_value s)) (held_part p) e in
    held-more 0 (extra v) d us q.2 n (subst (λ (x : ℕ). x ≤ extra v + q.2) (sym q.4) (opened-part s p v (same-value v (is_value s) z.0) q.2)) refl (part-held h s p z.1 d us q.2 ms l q.5)
held-at v h type_arguments e d us n ms l b = held-more 0 (extra v) d us n n (omega arith) refl (holds-list h d us n ms l b)
held-at true h nested_annotation e d us n ms l b = marked-held h d us n ms l b
held-at false h nested_annotation e d us n ms l b = absurd cc
held-at v h (expression_rest s w a) e d us n ms l (inl b) = none-held (extra v) d us n b.1
held-at v zero (expression_rest s w a) e d us n ms l (inr q) = absurd q.5
held-at v (suc h) (expression_rest s w a) e d us n ms l (inr q) =
    let z = both (same v (is_value s)) (reached a) e in
    subst (λ (k : ℕ). Held (extra v) d us k) (sym q.4)
    (form-holds v h (held-at v h) (rule (expression_rest s w a)) (subst (λ (c : Bool). holds c (rule (expression_rest s w a)) ≡ true) (same-value v (is_value s) z.0) (rest-holds s w a z.1)) d us q.2 ms l q.5)
held-at v h (value_and_rest s) e d us n ms l (inl b) = none-held (extra v) d us n b.1
held-at v zero (value_and_rest s) e d us n ms l (inr q) = absurd q.5
held-at v (suc h) (value_and_rest s) e d us n ms l (inr q) =
    subst (λ (k : ℕ). Held (extra v) d us k) (sym q.4)
    (form-holds v h (held-at v h) (rule (value_and_rest s)) (subst (λ (c : Bool). holds c (rule (value_and_rest s)) ≡ true) (same-value v (is_value s) e) (value-holds s)) d us q.2 ms l q.5)
held-at v h (value_end assigned) e d us n ms l b = held-more 0 (extra v) d us n n (omega arith) refl (end-held h d us n ms l b)
held-at v h (value_end alone) e d us n ms l (inl b) = none-held (extra v) d us n b.1
held-at v zero (value_end alone) e d us n ms l (inr q) = absurd q.5
held-at v (suc h) (value_end alone) e d us n ms l (inr q) =
    subst (λ (k : ℕ). Held (extra v) d us k) (sym q.4)
    (form-holds v h (held-at v h) (rule (value_end alone)) (subst (λ (c : Bool). holds c (rule (value_end alone)) ≡ true) (same-value v true e) (closes-row alone refl)) d us q.2 ms l q.5)
held-at v h (value_end paired) e d us n ms l (inl b) = none-held (extra v) d us n b.1
held-at v zero (value_end paired) e d us n ms l (inr q) = absurd q.5
held-at v (suc h) (value_end paired) e d us n ms l (inr q) =
    subst (λ (k : ℕ). Held (extra v) d us k) (sym q.4)
    (form-holds v h (held-at v h) (rule (value_end paired)) (subst (λ (c : Bool). holds c (rule (value_end paired)) ≡ true) (same-value v true e) (closes-row paired refl)) d us q.2 ms l q.5)
held-at v h (value_end listed) e d us n ms l (inl b) = none-held (extra v) d us n b.1
held-at v zero (value_end listed) e d us n ms l (inr q) = absurd q.5
held-at v (suc h) (value_end listed) e d us n ms l (inr q) =
    subst (λ (k : ℕ). Held (extra v) d us k) (sym q.4)
    (form-holds v h (held-at v h) (rule (value_end listed)) (subst (λ (c : Bool). holds c (rule (value_end listed)) ≡ true) (same-value v true e) (closes-row listed refl)) d us q.2 ms l q.5)
held-at v h (value_end defaulted) e d us n ms l (inl b) = none-held (extra v) d us n b.1
held-at v zero (value_end defaulted) e d us n ms l (inr q) = absurd q.5
held-at v (suc h) (value_end defaulted) e d us n ms l (inr q) =
    subst (λ (k : ℕ). Held (extra v) d us k) (sym q.4)
    (form-holds v h (held-at v h) (rule (value_end defaulted)) (subst (λ (c : Bool). holds c (rule (value_end defaulted)) ≡ true) (same-value v true e) (closes-row defaulted refl)) d us q.2 ms l q.5)
held-at v h created_arguments e d us n ms l b = absurd cc
held-at v h array_value e d us n ms l b = absurd cc
held-at v h first_name e d us n ms l b = absurd cc
held-at v h constant_value e d us n ms l b = absurd cc
held-at v h nested_type e d us n ms l b = absurd cc
held-at v h modifiers e d us n ms l b = absurd cc
held-at v h plain_modifiers e d us n ms l b = absurd cc
held-at v h static_word e d us n ms l b = absurd cc
held-at v h import_rest e d us n ms l b = absurd cc
held-at v h enum_rest e d us n ms l b = absurd cc
held-at v h param_rest e d us n ms l b = absurd cc
held-at v h first_rest e d us n ms l b = absurd cc
held-at v h initialiser e d us n ms l b = absurd cc
held-at v h constant_items e d us n ms l b = absurd cc
held-at v h constant_chain e d us n ms l b = absurd cc
