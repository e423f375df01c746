-- Questions that are asked, each once: what holds of them holds of all that asked for them.
use Rattle.std.proofs.Common.{◌≡◌, ℕ, suc, ◌+◌, ◌<◌, Bool, true, false, not, cond, eqb, ◌&&◌, ◌||◌, List, [], ◌∷◌, ◌++◌, map, length, get_or, None, Some, unwrap_or, option_map, refl, sym, ap, ◌∙◌, subst, arith, lt-ltb, if◌then◌else◌}
use Rattle.std.proofs.lemmas.Bool.{eqb-true, eq-eqb, false≢true}
use Rattle.std.proofs.lemmas.Option.{slice_get-map, slice_get-get_or}
use Rattle.std.specs.List.{AllByRecursion, list_any, position_or_len}
use Rattle.type_levels.specs.Answers.{Answer, Open}
use Rattle.type_levels.specs.declared.question.Pair.{Pair}
use Rattle.type_levels.specs.Levels.{same_pair, with_pair, with_pairs, at_place, look}

pub weaken : {A : Type 0} (P Q : A → Type 0) → ((x : A) → P x → Q x) → (xs : List A) → AllByRecursion P xs → AllByRecursion Q xs
weaken P Q k [] h = tt
weaken P Q k (x ∷ xs) h = (k x h.0, weaken P Q k xs h.1)

pub all_joined : {A : Type 0} (P : A → Type 0) (xs ys : List A) → AllByRecursion P xs → AllByRecursion P ys → AllByRecursion P (xs ++ ys)
all_joined P [] ys h i = i
all_joined P (x ∷ xs) ys h i = (h.0, all_joined P xs ys h.1 i)

pub all_parted : {A : Type 0} (P : A → Type 0) (xs ys : List A) → AllByRecursion P (xs ++ ys) → AllByRecursion P xs × AllByRecursion P ys
all_parted P [] ys h = (tt, h)
all_parted P (x ∷ xs) ys h = let r = all_parted P xs ys h.1 in ((h.0, r.0), r.1)

pair_is : (p q : Pair) → same_pair p q ≡ true → p ≡ q
pair_is p q e = by (eqb p.sub q.sub) (eqb p.sup q.sup) refl refl e
  where
    by : (b d : Bool) → eqb p.sub q.sub ≡ b → eqb p.sup q.sup ≡ d → (b && d) ≡ true → p ≡ q
    by true true s t e = λ i. record { sub = eqb-true p.sub q.sub s i; sup = eqb-true p.sup q.sup t i }
    by true false s t e = absurd (false≢true e)
    by false d s t e = absurd (false≢true e)

same_itself : (p : Pair) → same_pair p p ≡ true
same_itself p = let one : eqb p.sub p.sub ≡ true = eq-eqb p.sub p.sub refl in let two : eqb p.sup p.sup ≡ true = eq-eqb p.sup p.sup refl in rw (one, two) refl

true_last : (b : Bool) → (b || true) ≡ true
true_last true = refl
true_last false = refl

module _ (P : Pair → Type 0) where
  at_found : (asked : List Pair) (q : Pair) → list_any (same_pair q) asked ≡ true → AllByRecursion P asked → P q
  at_found [] q e h = absurd (false≢true e)
  at_found (x ∷ asked) q e h = by (same_pair q x) refl e (λ e. at_found asked q e h.1)
    where
      by : (b : Bool) → same_pair q x ≡ b → (b || list_any (same_pair q) asked) ≡ true → (list_any (same_pair q) asked ≡ true → P q) → P q
      by true s e next = subst P (sym (pair_is q x s)) h.0
      by false s e next = next e

  new_kept : (asked : List Pair) (q : Pair) → AllByRecursion P (with_pair asked q) → AllByRecursion P asked × P q
  new_kept asked q h = by (list_any (same_pair q) asked) refl h
    where
      by : (b : Bool) → list_any (same_pair q) asked ≡ b → AllByRecursion P (if b then asked else asked ++ q ∷ []) → AllByRecursion P asked × P q
      by true e h = (h, at_found asked q e h)
      by false e h = let r = all_parted P asked (q ∷ []) h in (r.0, r.1.0)

  new_added : (asked : List Pair) (q : Pair) → AllByRecursion P asked → P q → AllByRecursion P (with_pair asked q)
  new_added asked q h p = by (list_any (same_pair q) asked)
    where
      by : (b : Bool) → AllByRecursion P (if b then asked else asked ++ q ∷ [])
      by true = h
      by false = all_joined P asked (q ∷ []) h (p, tt)

  pub all_kept : (asked pairs : List Pair) → AllByRecursion P (with_pairs asked pairs) → AllByRecursion P asked × AllByRecursion P pairs
  all_kept asked [] h = (h, tt)
  all_kept asked (q ∷ pairs) h =
      let r = all_kept (with_pair asked q) pairs h in
      let s = new_kept asked q r.0 in
      (s.0, (s.1, r.1))

  pub all_added : (asked pairs : List Pair) → AllByRecursion P asked → AllByRecursion P pairs → AllByRecursion P (with_pairs asked pairs)
  all_added asked [] h i = h
  all_added asked (q ∷ pairs) h i = all_added (with_pair asked q) pairs (new_added asked q h i.0) i.1

-- ---- the answers to questions that are asked

all_found : (asked : List Pair) → AllByRecursion (λ q. list_any (same_pair q) asked ≡ true) asked
all_found [] = tt
all_found (x ∷ asked) =
    let first : list_any (same_pair x) (x ∷ asked) ≡ true = rw (same_itself x) refl in
    (first, weaken _ _ (λ q e. ap (λ b. same_pair q x || b) e ∙ true_last (same_pair q x)) asked (all_found asked))

-- the place of a question that is asked
at_its_place : (asked : List Pair) (q : Pair) → list_any (same_pair q) asked ≡ true
    → (position_or_len (same_pair q) asked < length asked) × (get_or asked (position_or_len (same_pair q) asked) q ≡ q)
at_its_place [] q e = absurd (false≢true e)
at_its_place (x ∷ asked) q e = by (same_pair q x) refl e (at_its_place asked q)
  where
    At : ℕ → Type 0
    At place = (place < suc (length asked)) × (get_or (x ∷ asked) place q ≡ q)

    by : (b : Bool) → same_pair q x ≡ b → (b || list_any (same_pair q) asked) ≡ true
        → (list_any (same_pair q) asked ≡ true → (position_or_len (same_pair q) asked < length asked) × (get_or asked (position_or_len (same_pair q) asked) q ≡ q))
        → At (cond (not b) (1 + position_or_len (same_pair q) asked) 0)
    by true s e next = (omega arith, sym (pair_is q x s))
    by false s e next =
        let r = next e in
        let less = r.0 in
        let one_more : suc (position_or_len (same_pair q) asked) ≡ 1 + position_or_len (same_pair q) asked = omega arith in
        subst At one_more (omega arith, r.1)

module _ (f : Pair → Answer) where
  look_found : (asked : List Pair) (q : Pair) → list_any (same_pair q) asked ≡ true → look asked (map f asked) q ≡ f q
  look_found asked q e =
      let at = position_or_len (same_pair q) asked in
      let r = at_its_place asked q e in
      ap (λ b. at_place (map f asked) (cond b (Some at) None)) (lt-ltb at (length asked) r.0)
      ∙ ap (λ o. unwrap_or o Open) (slice_get-map f asked at ∙ ap (option_map f) (slice_get-get_or asked at q r.0)) ∙ ap f r.1

  pub look_right : (asked : List Pair) → AllByRecursion (λ q. look asked (map f asked) q ≡ f q) asked
  look_right asked = weaken _ _ (look_found asked) asked (all_found asked)
