-- What a form does to the braces that are open: a phrase closes those that it opens, opens one pair more, or closes one that stands open before it.
use Rattle.std.proofs.Common.{◌≡◌, ℕ, suc, ◌≤◌, Bool, true, false, cond, eqb, ◌||◌, List, [], ◌∷◌, ◌++◌, ◌⊎◌, Some, None, inl, inr, refl, sym, ap, subst, ◌∙◌, arith}
use Rattle.std.specs.Prelude.{if◌then◌else◌}
use Rattle.std.proofs.lemmas.Bool.{eqb-true}
use Rattle.decl_grammar.specs.declared.symbol.Symbol.{Symbol}
use Rattle.decl_grammar.specs.Reading.{has, openers}
use Rattle.decl_grammar.specs.Form.{Stands, Part, Nest, Of, alone, paired, listed, defaulted, assigned, one_of, bracketed, arguments, annotated, created, type_reference, tested, tested_name, tested_dim, type_arguments, created_arguments, array_value, nested_annotation, first_name, constant_value, expression_part, nested_type, modifiers, plain_modifiers, static_word, import_rest, enum_rest, param_rest, first_rest, value_and_rest, expression_rest, initialiser, value_end, constant_items, constant_chain, Form, terminal, pair, turn, maybe, many, either, seen, nest, over, attempt, Each, Wholes, Is}
use Rattle.decl_grammar.proofs.OneToken.{within}
use Rattle.decl_limits.specs.Separators.{Scan, left_to, scanned}
use Rattle.decl_limits.proofs.Scans.{picked, both-around, both-count, one-scanned, Adds, adds-nothing, adds-less, adds-both, symbol-adds}
use Rattle.decl_limits.proofs.PassedBraces.{skip-adds}

-- The braces of a phrase stand in pairs; one is open behind it; it closes one that was open before it; or nothing is said.
pub data Effect : Type 0 where
  level : Effect
  opening : Effect
  closing : Effect
  mixed : Effect

abbrev pub sort_effect : ℕ → Effect
sort_effect k = if has (63 ∷ []) k then opening else if has (64 ∷ []) k then closing else level

-- one or the other
abbrev pub alike : Effect → Effect → Effect
alike level level = level
alike level opening = mixed
alike level closing = mixed
alike level mixed = mixed
alike opening level = mixed
alike opening opening = opening
alike opening closing = mixed
alike opening mixed = mixed
alike closing level = mixed
alike closing opening = mixed
alike closing closing = closing
alike closing mixed = mixed
alike mixed level = mixed
alike mixed opening = mixed
alike mixed closing = mixed
alike mixed mixed = mixed

-- one after the other
abbrev pub joined : Effect → Effect → Effect
joined level level = level
joined level opening = opening
joined level closing = closing
joined level mixed = mixed
joined opening level = opening
joined opening opening = mixed
joined opening closing = level
joined opening mixed = mixed
joined closing level = closing
joined closing opening = mixed
joined closing closing = mixed
joined closing mixed = mixed
joined mixed level = mixed
joined mixed opening = mixed
joined mixed closing = mixed
joined mixed mixed = mixed

abbrev pub repeated : Effect → Effect
repeated level = level
repeated opening = mixed
repeated closing = mixed
repeated mixed = mixed

abbrev pub terminal_effect : List ℕ → Effect
terminal_effect [] = level
terminal_effect (k ∷ []) = sort_effect k
terminal_effect (k ∷ l ∷ ks) = alike (sort_effect k) (terminal_effect (l ∷ ks))

abbrev pub over_effect : List ℕ → Effect
over_effect ks = if within ks openers then level else mixed

abbrev pub part_effect : Part → Effect
part_effect (one_of ks) = terminal_effect ks
part_effect (bracketed ks) = over_effect ks
part_effect annotated = level
part_effect arguments = level
part_effect created = level
part_effect type_reference = level
part_effect tested = level
part_effect tested_name = level
part_effect tested_dim = level

-- what ends a row: of an array its `}`
abbrev pub end_effect : Stands → Effect
end_effect alone = level
end_effect paired = level
end_effect listed = closing
end_effect defaulted = level
end_effect assigned = level

abbrev pub nest_effect : Nest → Effect
nest_effect (expression_part s p) = part_effect p
nest_effect nested_type = level
nest_effect modifiers = level
nest_effect plain_modifiers = level
nest_effect static_word = level
nest_effect import_rest = level
nest_effect enum_rest = level
nest_effect param_rest = level
nest_effect first_rest = level
nest_effect type_arguments = level
nest_effect created_arguments = level
nest_effect array_value = level
nest_effect nested_annotation = level
nest_effect first_name = level
nest_effect constant_value = level
nest_effect (value_and_rest s) = end_effect s
nest_effect (expression_rest s w a) = end_effect s
nest_effect initialiser = level
nest_effect (value_end s) = end_effect s
nest_effect constant_items = closing
nest_effect constant_chain = level

abbrev pub effect : {A : Type 0} → Form A → Effect
effect (terminal ks) = terminal_effect ks
effect (pair f g) = joined (effect f) (effect g)
effect (turn h f) = effect f
effect (maybe f) = repeated (effect f)
effect (many f) = repeated (effect f)
effect (either f g) = alike (effect f) (effect g)
effect (seen h f) = effect f
effect (nest m) = nest_effect m
effect (over opens) = over_effect opens
effect (attempt f g) = alike (effect f) (effect g)

-- ---- what is so of symbols of such an effect

-- one pair of braces more is open, and around it at least this many are counted as before
abbrev pub Opens : List Symbol → Type 0
Opens ts = (s : Scan) → (n : ℕ) × ((scanned s ts).around ≡ n ∷ s.around) × (s.count ≤ n)

-- the innermost braces are closed, and their `}` counts
abbrev pub Closes : List Symbol → Type 0
Closes ts = (s : Scan) (n : ℕ) (ns : List ℕ) → s.around ≡ n ∷ ns → ((scanned s ts).around ≡ ns) × (suc n ≤ (scanned s ts).count)

abbrev pub Levels : Effect → List Symbol → Type 0
Levels level ts = Adds ts 0
Levels opening ts = Opens ts
Levels closing ts = Closes ts
Levels mixed ts = Unit {0}

-- ---- one symbol

entered-opens : (t : Symbol) → has (63 ∷ []) t.sort ≡ true → Opens (t ∷ [])
entered-opens t e = λ s.
    let is : scanned s (t ∷ []) ≡ picked true (has (64 ∷ []) t.sort) (has (67 ∷ 68 ∷ []) t.sort) s = one-scanned s t ∙ ap (λ (a : Bool). picked a (has (64 ∷ []) t.sort) (has (67 ∷ 68 ∷ []) t.sort) s) e in
    (s.count, ap (λ (x : Scan). x.around) is, omega arith)

left-closes : (t : Symbol) → has (63 ∷ []) t.sort ≡ false → has (64 ∷ []) t.sort ≡ true → Closes (t ∷ [])
left-closes t d e = λ s n ns around.
    let is : scanned s (t ∷ []) ≡ left_to (n ∷ ns) s.count s.most =
    one-scanned s t
    ∙ (ap (λ (a : Bool). picked a (has (64 ∷ []) t.sort) (has (67 ∷ 68 ∷ []) t.sort) s) d
    ∙ (ap (λ (b : Bool). picked false b (has (67 ∷ 68 ∷ []) t.sort) s) e
    ∙ ap (λ (ks : List ℕ). left_to ks s.count s.most) around)) in
    (ap (λ (x : Scan). x.around) is, omega (arith, ap (λ (x : Scan). x.count) is))

symbol-levels : (t : Symbol) → Levels (sort_effect t.sort) (t ∷ [])
symbol-levels t = go (has (63 ∷ []) t.sort) (has (64 ∷ []) t.sort) refl refl
  where
    go : (a b : Bool) → has (63 ∷ []) t.sort ≡ a → has (64 ∷ []) t.sort ≡ b → Levels (cond a opening (cond b closing level)) (t ∷ [])
    go true b d e = entered-opens t d
    go false true d e = left-closes t d e
    go false false d e =
        let p = symbol-adds t d e in
        record { keeps = p.keeps; adds = λ s. omega (arith, p.adds s) }

-- ---- one or the other

-- what two effects have in common is each of them, or nothing is said
alike-left : (e f : Effect) → (alike e f ≡ e) ⊎ (alike e f ≡ mixed)
alike-left level level = inl refl
alike-left level opening = inr refl
alike-left level closing = inr refl
alike-left level mixed = inr refl
alike-left opening level = inr refl
alike-left opening opening = inl refl
alike-left opening closing = inr refl
alike-left opening mixed = inr refl
alike-left closing level = inr refl
alike-left closing opening = inr refl
alike-left closing closing = inl refl
alike-left closing mixed = inr refl
alike-left mixed level = inr refl
alike-left mixed opening = inr refl
alike-left mixed closing = inr refl
alike-left mixed mixed = inr refl

alike-right : (e f : Effect) → (alike e f ≡ f) ⊎ (alike e f ≡ mixed)
alike-right level level = inl refl
alike-right level opening = inr refl
alike-right level closing = inr refl
alike-right level mixed = inr refl
alike-right opening level = inr refl
alike-right opening opening = inl refl
alike-right opening closing = inr refl
alike-right opening mixed = inr refl
alike-right closing level = inr refl
alike-right closing opening = inr refl
alike-right closing closing = inl refl
alike-right closing mixed = inr refl
alike-right mixed level = inr refl
alike-right mixed opening = inr refl
alike-right mixed closing = inr refl
alike-right mixed mixed = inr refl

levels-by : (e f : Effect) (us : List Symbol) → (f ≡ e) ⊎ (f ≡ mixed) → Levels e us → Levels f us
levels-by e f us (inl p) h = subst (λ (x : Effect). Levels x us) (sym p) h
levels-by e f us (inr p) h = subst (λ (x : Effect). Levels x us) (sym p) tt

levels-left : (e f : Effect) (us : List Symbol) → Levels e us → Levels (alike e f) us
levels-left e f us h = levels-by e (alike e f) us (alike-left e f) h

levels-right : (e f : Effect) (us : List Symbol) → Levels f us → Levels (alike e f) us
levels-right e f us h = levels-by f (alike e f) us (alike-right e f) h

terminal-levels : (ks : List ℕ) (t : Symbol) → has ks t.sort ≡ true → Levels (terminal_effect ks) (t ∷ [])
terminal-levels [] t h = absurd cc
terminal-levels (k ∷ []) t h = subst (λ (n : ℕ). Levels (sort_effect n) (t ∷ [])) (eqb-true t.sort k h) (symbol-levels t)
terminal-levels (k ∷ l ∷ ks) t h = go (eqb t.sort k) (terminal-levels (l ∷ ks) t) refl h
  where
    go : (c : Bool) → (has (l ∷ ks) t.sort ≡ true → Levels (terminal_effect (l ∷ ks)) (t ∷ [])) → eqb t.sort k ≡ c → (c || has (l ∷ ks) t.sort) ≡ true → Levels (alike (sort_effect k) (terminal_effect (l ∷ ks))) (t ∷ [])
    go true below e h = levels-left (sort_effect k) (terminal_effect (l ∷ ks)) (t ∷ []) (subst (λ (n : ℕ). Levels (sort_effect n) (t ∷ [])) (eqb-true t.sort k e) (symbol-levels t))
    go false below e h = levels-right (sort_effect k) (terminal_effect (l ∷ ks)) (t ∷ []) (below h)

-- ---- one after another

open-level : (us vs : List Symbol) → Opens us → Adds vs 0 → Opens (us ++ vs)
open-level us vs p q = λ s. let r = p s in (r.0, both-around us vs s ∙ (q.keeps (scanned s us) ∙ r.1), r.2)

level-open : (us vs : List Symbol) → Adds us 0 → Opens vs → Opens (us ++ vs)
level-open us vs p q = λ s.
    let r = q (scanned s us) in
    (r.0, both-around us vs s ∙ (r.1 ∙ ap (λ (ns : List ℕ). r.0 ∷ ns) (p.keeps s)), omega (arith, p.adds s, r.2))

level-close : (us vs : List Symbol) → Adds us 0 → Closes vs → Closes (us ++ vs)
level-close us vs p q = λ s n ns around.
    let r = q (scanned s us) n ns (p.keeps s ∙ around) in
    (both-around us vs s ∙ r.0, omega (arith, r.1, both-count us vs s))

close-level : (us vs : List Symbol) → Closes us → Adds vs 0 → Closes (us ++ vs)
close-level us vs p q = λ s n ns around.
    let r = p s n ns around in
    (both-around us vs s ∙ (q.keeps (scanned s us) ∙ r.0), omega (arith, r.1, q.adds (scanned s us), both-count us vs s))

-- the `}` counts
pub open-close : (us vs : List Symbol) → Opens us → Closes vs → Adds (us ++ vs) 1
open-close us vs p q = record {
  keeps = λ s. let r = p s in both-around us vs s ∙ (q (scanned s us) r.0 s.around r.1).0;
  adds = λ s. let r = p s in omega (arith, r.2, (q (scanned s us) r.0 s.around r.1).1, both-count us vs s);
}

levels-joined : (e f : Effect) (us vs : List Symbol) → Levels e us → Levels f vs → Levels (joined e f) (us ++ vs)
levels-joined level level us vs p q = adds-both refl p q
levels-joined level opening us vs p q = level-open us vs p q
levels-joined level closing us vs p q = level-close us vs p q
levels-joined level mixed us vs p q = tt
levels-joined opening level us vs p q = open-level us vs p q
levels-joined opening opening us vs p q = tt
levels-joined opening closing us vs p q = adds-less (open-close us vs p q) (omega arith)
levels-joined opening mixed us vs p q = tt
levels-joined closing level us vs p q = close-level us vs p q
levels-joined closing opening us vs p q = tt
levels-joined closing closing us vs p q = tt
levels-joined closing mixed us vs p q = tt
levels-joined mixed level us vs p q = tt
levels-joined mixed opening us vs p q = tt
levels-joined mixed closing us vs p q = tt
levels-joined mixed mixed us vs p q = tt

-- ---- none or any number

none-levels : (e : Effect) → Levels (repeated e) []
none-levels level = adds-nothing
none-levels opening = tt
none-levels closing = tt
none-levels mixed = tt

maybe-levels : (e : Effect) (us : List Symbol) → Levels e us → Levels (repeated e) us
maybe-levels level us p = p
maybe-levels opening us p = tt
maybe-levels closing us p = tt
maybe-levels mixed us p = tt

levels-repeated : (e : Effect) {A : Type 0} (P : List Symbol → A → Type 0) → ((us : List Symbol) (x : A) → P us x → Levels e us) → (xs : List A) (us : List Symbol) → Each P us xs → Levels (repeated e) us
levels-repeated level P h [] us each = subst (λ (u : List Symbol). Adds u 0) (sym each) adds-nothing
levels-repeated level P h (x ∷ xs) us each = adds-both each.2 (h each.0 x each.3) (levels-repeated level P h xs each.1 each.4)
levels-repeated opening P h xs us each = tt
levels-repeated closing P h xs us each = tt
levels-repeated mixed P h xs us each = tt

-- ---- forms

over-levels : (opens : List ℕ) (us : List Symbol) (x : Unit {0}) (w : Wholes) → Is w (over opens) us x → Levels (over_effect opens) us
over-levels opens us x w is = go (within opens openers) refl
  where
    go : (c : Bool) → within opens openers ≡ c → Levels (cond c level mixed) us
    go true e = skip-adds opens us e is
    go false e = tt

abbrev pub NestLevels : Wholes → Type 0
NestLevels w = (m : Nest) (us : List Symbol) (x : Of m) → w m us x → Levels (nest_effect m) us

pub form-levels : (w : Wholes) → NestLevels w → {A : Type 0} (f : Form A) (us : List Symbol) (x : A) → Is w f us x → Levels (effect f) us
form-levels w inside (terminal ks) us x is = subst (λ (u : List Symbol). Levels (terminal_effect ks) u) (sym is.0) (terminal-levels ks x is.1)
form-levels w inside (pair f g) us x is =
    subst (λ (u : List Symbol). Levels (joined (effect f) (effect g)) u) (sym is.2)
    (levels-joined (effect f) (effect g) is.0 is.1 (form-levels w inside f is.0 x.0 is.3) (form-levels w inside g is.1 x.1 is.4))
form-levels w inside (turn h f) us x is = form-levels w inside f us is.0 is.1
form-levels w inside (maybe f) us None is = subst (λ (u : List Symbol). Levels (repeated (effect f)) u) (sym is) (none-levels (effect f))
form-levels w inside (maybe f) us (Some x) is = maybe-levels (effect f) us (form-levels w inside f us x is)
form-levels w inside (many f) us xs is = levels-repeated (effect f) (Is w f) (form-levels w inside f) xs us is
form-levels w inside (either f g) us x (inl is) = levels-left (effect f) (effect g) us (form-levels w inside f us x is)
form-levels w inside (either f g) us x (inr is) = levels-right (effect f) (effect g) us (form-levels w inside g us x is)
form-levels w inside (seen h f) us x is = form-levels w inside f us x.1 is.0
form-levels w inside (nest m) us x is = inside m us x is
form-levels w inside (over opens) us x is = over-levels opens us x w is
form-levels w inside (attempt f g) us x (inl is) = levels-left (effect f) (effect g) us (form-levels w inside f us x is)
form-levels w inside (attempt f g) us x (inr is) = levels-right (effect f) (effect g) us (form-levels w inside g us x is)
