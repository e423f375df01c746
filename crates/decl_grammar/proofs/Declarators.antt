-- Within a type no declarator ends, and none closes a list of it.
use Rattle.std.proofs.Common.{◌≡◌, ℕ, zero, suc, true, List, [], ◌∷◌, ◌++◌, ◌⊎◌, refl, sym, subst, ◌∙◌, inl, inr}
use Rattle.apt_base.specs.declared.around.Around.{Around}
use Rattle.decl_grammar.specs.declared.symbol.Symbol.{Symbol}
use Rattle.decl_grammar.specs.declared.written.NameAt.{NameAt}
use Rattle.decl_grammar.specs.Reading.{has}
use Rattle.decl_grammar.specs.Form.{Nest, opened, assigned, value_end, initialiser, Form, pair, many, nest, Is, Begins}
use Rattle.decl_grammar.specs.Types.{sign, behind, name, name_at, dim, annotations, annotation, annotation_body, annotation_arguments, name_chain, dot_name, pairs_or_value, first_pair, named_text}
use Rattle.decl_grammar.specs.Expressions.{assigned_end, value_or_end}
use Rattle.decl_grammar.specs.Rule.{WholeAt, BegunAt}
use Rattle.decl_grammar.proofs.OneToken.{within-has}
use Rattle.decl_grammar.proofs.Heads.{nil_parts, Begins-head}
use Rattle.decl_grammar.proofs.Fronts.{cuts}
use Rattle.decl_grammar.proofs.Heights.{full-at, heads-at, bheads-at}
use Rattle.decl_grammar.proofs.OpenBrackets.{stops, reference_stops, Leads}
use Rattle.decl_grammar.proofs.Effects.{in_arguments, Effect, level, Levels, Opened}
use Rattle.decl_grammar.proofs.EffectLemmas.{form-levels, form-opened}
use Rattle.decl_grammar.proofs.Closed.{levels-at, opened-at}
use Rattle.decl_grammar.proofs.Crossing.{rest-of, stopped}
use Rattle.decl_grammar.proofs.TypeParts.{lists, never, no-reference, none-closed, same-first, some-symbol}
use Rattle.decl_grammar.specs.TokenNames as token

-- ---- declarators

too-long : (d : ℕ) (us : List Symbol) (r : Symbol) (rs : List Symbol) → Leads us (lists d) [] → (us ++ r ∷ rs ≡ []) ⊎ ((q : Symbol) × (us ++ r ∷ rs ≡ q ∷ [])) → ⊥
too-long d us r rs l (inl e) = let z = (nil_parts us (r ∷ rs) (sym e)).1 in cc
too-long zero [] r rs l (inr q) = cc
too-long (suc d) [] r rs l (inr q) = cc
too-long d (u ∷ us) r rs l (inr q) =
    let z : us ++ r ∷ rs ≡ [] = cc in
    let y = (nil_parts us (r ∷ rs) (sym z)).1 in cc

one-sort : (d : ℕ) (k : List ℕ) (us : List Symbol) (r : Symbol) (rs : List Symbol) → Leads us (lists d) [] → (us ++ r ∷ rs ≡ []) ⊎ ((t : Symbol) × (us ++ r ∷ rs ≡ t ∷ []) × (has k t.sort ≡ true)) → ⊥
one-sort d k us r rs l (inl e) = too-long d us r rs l (inl e)
one-sort d k us r rs l (inr q) = too-long d us r rs l (inr (q.0, q.1))

-- a form in which each `<` is closed, first
opened-never : (h : ℕ) {A : Type 0} (f : Form A) (e : Effect) → e ≡ level → (d : ℕ) (us : List Symbol) (r : Symbol) (rs : List Symbol) → Leads us (lists (suc d)) [] → Opened in_arguments e (us ++ r ∷ rs) → ⊥
opened-never h f e z d us r rs l p =
    let q = (subst (λ (x : Effect). Opened in_arguments x (us ++ r ∷ rs)) z p) 74 (lists d) refl in
    never us r rs (lists (suc d)) (q.0 ++ 74 ∷ lists d) l q.1

level-further : (e : Effect) → e ≡ level → (d : ℕ) (us : List Symbol) (r : Symbol) (rs b c : List Symbol) → us ++ r ∷ rs ≡ b ++ c → Leads us (lists (suc d)) [] → Levels in_arguments e b
    → (ds : List Symbol) × (c ≡ ds ++ r ∷ rs) × Leads ds (lists (suc d)) []
level-further e z d us r rs b c s l p =
    let q : Levels in_arguments level b = subst (λ (x : Effect). Levels in_arguments x b) z p in
    go (q 74 (lists d) refl) (cuts us (r ∷ rs) b c s)
  where
    go : Leads b (lists (suc d)) (lists (suc d)) → ((ds : List Symbol) × (b ≡ us ++ ds) × (r ∷ rs ≡ ds ++ c)) ⊎ ((ds : List Symbol) × (us ≡ b ++ ds) × (c ≡ ds ++ r ∷ rs)) → (ds : List Symbol) × (c ≡ ds ++ r ∷ rs) × Leads ds (lists (suc d)) []
    go m (inl q) = absurd (none-closed (suc d) us q.0 (lists (suc d)) l (subst (λ (u : List Symbol). Leads u (lists (suc d)) (lists (suc d))) q.1 m))
    go m (inr q) = (q.0, q.2, rest-of b q.0 (lists (suc d)) (lists (suc d)) (subst (λ (u : List Symbol). Leads u (lists (suc d)) []) q.1 l) m)

pub nest-begun : (h : ℕ) (m : Nest) → ((k : ℕ) → opened m k ≡ k) → (us : List Symbol) (r : Symbol) (rs : List Symbol) (n : ℕ) → Begins (WholeAt h) (BegunAt h) (nest m) (us ++ r ∷ rs) n → BegunAt h m (us ++ r ∷ rs) n
nest-begun h m free us r rs n (inl b) = let z = (nil_parts us (r ∷ rs) (sym b.0)).1 in absurd cc
nest-begun h m free us r rs n (inr q) = subst (λ (k : ℕ). BegunAt h m (us ++ r ∷ rs) k) (sym (q.4 ∙ free q.2)) q.5

no-value : (h : ℕ) (d : ℕ) (us : List Symbol) (r : Symbol) (rs : List Symbol) (n : ℕ) → Leads us (lists (suc d)) [] → Begins (WholeAt h) (BegunAt h) (behind (sign token.equals) (nest initialiser)) (us ++ r ∷ rs) n → ⊥
no-value h d us r rs n l b =
    let g = some-symbol (suc d) us l in
    let head : has (73 ∷ []) g.0.sort ≡ true =
    Begins-head (WholeAt h) (BegunAt h) (full-at h) (heads-at h) (bheads-at h) (behind (sign token.equals) (nest initialiser)) g.0 (g.1 ++ r ∷ rs) n (g.0 ∷ g.1 ++ r ∷ rs) refl
    (subst (λ (u : List Symbol). Begins (WholeAt h) (BegunAt h) (behind (sign token.equals) (nest initialiser)) (u ++ r ∷ rs) n) g.2 b) in
    stopped g.0 g.1 (lists d) [] (within-has (73 ∷ []) stops g.0.sort refl head) (subst (λ (u : List Symbol). Leads u (lists (suc d)) []) g.2 l)

dims-level : (h : ℕ) (us : List Symbol) (xs : List Around) → Is (WholeAt h) (many dim) us xs → Levels in_arguments level us
unfolding dim annotations annotation annotation_body annotation_arguments name_chain dot_name name pairs_or_value first_pair named_text
dims-level h us xs is = form-levels (WholeAt h) (levels-at h) in_arguments (many dim) us xs is

dims-opened : (h : ℕ) (us : List Symbol) (n : ℕ) → Begins (WholeAt h) (BegunAt h) (many dim) us n → Opened in_arguments level us
unfolding dim annotations annotation annotation_body annotation_arguments name_chain dot_name name pairs_or_value first_pair named_text
dims-opened h us n b = form-opened (WholeAt h) (BegunAt h) (levels-at h) (opened-at h) in_arguments (many dim) us n b

name-level : (h : ℕ) (us : List Symbol) (x : NameAt) → Is (WholeAt h) name_at us x → Levels in_arguments level us
name-level h us x is = form-levels (WholeAt h) (levels-at h) in_arguments name_at us x is

name-opened : (h : ℕ) (us : List Symbol) (n : ℕ) → Begins (WholeAt h) (BegunAt h) name_at us n → Opened in_arguments level us
name-opened h us n b = form-opened (WholeAt h) (BegunAt h) (levels-at h) (opened-at h) in_arguments name_at us n b

abbrev NoEnd : ℕ → Type 0
NoEnd h = (d : ℕ) (us : List Symbol) (r : Symbol) (rs : List Symbol) (n : ℕ) → Leads us (lists d) [] → BegunAt h (value_end assigned) (us ++ r ∷ rs) n → ⊥

no-rest : (h : ℕ) → NoEnd h → (d : ℕ) (us : List Symbol) (r : Symbol) (rs : List Symbol) (n : ℕ) → Leads us (lists (suc d)) [] → Begins (WholeAt h) (BegunAt h) value_or_end (us ++ r ∷ rs) n → ⊥
unfolding value_or_end
no-rest h ih d us r rs n l (inl b) = no-value h d us r rs n l b
no-rest h ih d us r rs n l (inr b) = ih (suc d) us r rs n l (nest-begun h (value_end assigned) (λ k. refl) us r rs n b)

no-declarator : (h : ℕ) → NoEnd h → (d : ℕ) (us : List Symbol) (r : Symbol) (rs : List Symbol) (n : ℕ) → Leads us (lists (suc d)) [] → Begins (WholeAt h) (BegunAt h) (pair name_at (pair (many dim) value_or_end)) (us ++ r ∷ rs) n → ⊥
no-declarator h ih d us r rs n l (inl b) = opened-never h name_at level refl d us r rs l (name-opened h (us ++ r ∷ rs) n b)
no-declarator h ih d us r rs n l (inr q) =
    let f = level-further level refl d us r rs q.0 q.1 q.3 l (name-level h q.0 q.2 q.4) in
    behind-name f.0 f.2 (subst (λ (u : List Symbol). Begins (WholeAt h) (BegunAt h) (pair (many dim) value_or_end) u n) f.1 q.5)
  where
    behind-name : (ds : List Symbol) → Leads ds (lists (suc d)) [] → Begins (WholeAt h) (BegunAt h) (pair (many dim) value_or_end) (ds ++ r ∷ rs) n → ⊥
    behind-name ds m (inl b) = opened-never h (many dim) level refl d ds r rs m (dims-opened h (ds ++ r ∷ rs) n b)
    behind-name ds m (inr q) =
        let f = level-further level refl d ds r rs q.0 q.1 q.3 m (dims-level h q.0 q.2 q.4) in
        no-rest h ih d f.0 r rs n f.2 (subst (λ (u : List Symbol). Begins (WholeAt h) (BegunAt h) value_or_end u n) f.1 q.5)

comma-first : (d : ℕ) (us : List Symbol) (r : Symbol) (rs b c : List Symbol) (s : Symbol) → us ++ r ∷ rs ≡ b ++ c → b ≡ s ∷ [] → has (68 ∷ []) s.sort ≡ true → Leads us (lists d) []
    → (e : ℕ) × (ds : List Symbol) × (c ≡ ds ++ r ∷ rs) × Leads ds (lists (suc e)) []
comma-first zero us r rs b c s e p k l =
    let g = some-symbol zero us l in
    let same : s ≡ g.0 = same-first us r rs b c g.0 s g.1 [] e g.2 p in
    absurd (no-reference g.0 g.1 [] [] (subst (λ (y : Symbol). has reference_stops y.sort ≡ true) same (within-has (68 ∷ []) reference_stops s.sort refl k)) (subst (λ (u : List Symbol). Leads u (lists zero) []) g.2 l))
comma-first (suc d) us r rs b c s e p k l =
    let levels : Levels in_arguments level b = subst (λ (u : List Symbol). Levels in_arguments level u) (sym p) (comma-level s k) in
    let f = level-further level refl d us r rs b c e l levels in
    (d, f.0, f.1, f.2)
  where
    comma-level : (s : Symbol) → has (68 ∷ []) s.sort ≡ true → Levels in_arguments level (s ∷ [])
    comma-level s k = form-levels (WholeAt zero) (levels-at zero) in_arguments (sign token.comma) (s ∷ []) s (refl, k)

pub no-end : (h : ℕ) → NoEnd h
unfolding assigned_end
no-end zero d us r rs n l b = b
no-end (suc h) d us r rs n l (inl b) = one-sort d (67 ∷ []) us r rs l b.1
no-end (suc h) d us r rs n l (inr (inl b)) = one-sort d (68 ∷ []) us r rs l b.1
no-end (suc h) d us r rs n l (inr (inr q)) =
    let f = comma-first d us r rs q.0 q.1 q.2 q.3 q.4.0 q.4.1 l in
    no-declarator h (no-end h) f.0 f.1 r rs n f.3 (subst (λ (u : List Symbol). Begins (WholeAt h) (BegunAt h) (pair name_at (pair (many dim) value_or_end)) u n) f.2 q.5)
