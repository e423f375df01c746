-- What is found under a key, and what is held after one type more.
use Rattle.std.proofs.Common.{◌≡◌, ◌↔◌, ◌==◌, ◌⊎◌, IsTrue, ℕ, zero, suc, ◌<◌, Bool, true, false, cond, List, [], ◌∷◌, ◌++◌, length, Option, Some, None, inl, inr, refl, sym, ap, subst, ◌∙◌, arith}
use Rattle.std.proofs.lemmas.Bool.{eqb-true, eq-eqb}
use Rattle.std.proofs.lemmas.Map.Text.{is_eq-slice_cmp}
use Rattle.std.proofs.lemmas.Slice.Eq.{bytes_eq-Decides}
use Rattle.std.specs.List.{AllByRecursion, slice_get}
use Rattle.std.specs.Ordering.{nat_cmp, is_eq}
use Rattle.std.specs.Cmp.Lexicographic.{slice_cmp}
use Rattle.apt_base.proofs.FieldsLemmas.{some_is}
use Rattle.type_mirror.specs.declared.mirror.Mirror.{Mirror}
use Rattle.type_layers.specs.Layers.{Layer, parts_of}
use Rattle.type_numbers.specs.Keys.{layer_key}
use Rattle.type_numbers.specs.Nodes.{layer_of}
use Rattle.type_numbers.specs.Numbers.{at, IsKnown, AreKnown, Stands, Grows, AreDifferent, HasNo, mirror_with}
use Rattle.type_numbers.specs.Held.{Key, types_of, number_at, IsOfKey, AreHeld}
use Rattle.type_numbers.specs.declared.entry.Entry.{Entry}
use Rattle.type_numbers.proofs.KeyLaws.{key-is}
use Rattle.type_numbers.proofs.NumberLaws.{stands-next, different-next, mirror_with-one}
use Rattle.type_numbers.proofs.HeldLaws.{length-types_of, types_of-push, at-types_of, entry-known, entry-stands, entry-parts_known}

-- ---- lists

slice_get-end : {X : Type 0} (xs : List X) (y : X) → slice_get (xs ++ y ∷ []) (length xs) ≡ Some y
slice_get-end [] y = refl
slice_get-end (x ∷ xs) y = slice_get-end xs y

slice_get-front : {X : Type 0} (xs : List X) (y : X) (i : ℕ) (x : X) → slice_get xs i ≡ Some x → slice_get (xs ++ y ∷ []) i ≡ Some x
slice_get-front [] y i x h = absurd cc
slice_get-front (z ∷ xs) y zero x h = h
slice_get-front (z ∷ xs) y (suc i) x h = slice_get-front xs y i x h

abbrev IsAt : {X : Type 0} → List X → X → ℕ → X → Type 0
IsAt xs y i x = ((i ≡ length xs) × (y ≡ x)) ⊎ (slice_get xs i ≡ Some x)

is_at-more : {X : Type 0} (z : X) (xs : List X) (y : X) (i : ℕ) (x : X) → IsAt xs y i x → IsAt (z ∷ xs) y (suc i) x
is_at-more z xs y i x (inl last) = inl (ap suc last.0, last.1)
is_at-more z xs y i x (inr front) = inr front

slice_get-push : {X : Type 0} (xs : List X) (y : X) (i : ℕ) (x : X) → slice_get (xs ++ y ∷ []) i ≡ Some x → IsAt xs y i x
slice_get-push [] y zero x h = inl (refl, some_is y x h)
slice_get-push [] y (suc i) x h = absurd cc
slice_get-push (z ∷ xs) y zero x h = inr h
slice_get-push (z ∷ xs) y (suc i) x h = is_at-more z xs y i x (slice_get-push xs y i x h)

entry_there : (entries : List Entry) (i : ℕ) → i < length entries → (e : Entry) × (slice_get entries i ≡ Some e)
entry_there [] i h = absurd (omega arith)
entry_there (e ∷ entries) zero h = (e, refl)
entry_there (e ∷ entries) (suc i) h = entry_there entries i (omega arith)

keys_alike : (xs ys : List ℕ) → xs ≡ ys → is_eq (slice_cmp nat_cmp xs ys) ≡ true
keys_alike xs ys e = is_eq-slice_cmp xs ys ∙ (bytes_eq-Decides xs ys).1 e

alike_keys : (xs ys : List ℕ) → is_eq (slice_cmp nat_cmp xs ys) ≡ true → xs ≡ ys
alike_keys xs ys h = (bytes_eq-Decides xs ys).0 (sym (is_eq-slice_cmp xs ys) ∙ h)

none_some : {A : Type 0} (r : Option A) (x : A) → r ≡ None → r ≡ Some x → ⊥
none_some r x none some = absurd cc

module _ (entries : List Entry) (numbers : List (Key × ℕ)) (held : AreHeld entries numbers) where
  -- ---- what is found

  of_key : (k : Key) (l : Layer ℕ) (i : ℕ) → k.items ≡ layer_key l → IsOfKey entries k.items i → Stands (types_of entries) i (mirror_with (types_of entries) l)
  of_key k l i e found =
      subst (λ (x : Layer ℕ). Stands (types_of entries) i (mirror_with (types_of entries) x)) (key-is (layer_of found.0.node) l (found.1.1 ∙ e))
      (entry-stands entries i found.0 held.ordered found.1.0)

  pub found-stands : (k : Key) (l : Layer ℕ) (i : ℕ) → k.items ≡ layer_key l → number_at numbers k.items ≡ Some i → Stands (types_of entries) i (mirror_with (types_of entries) l)
  found-stands k l i e h = of_key k l i e (held.finds_only k i h)

  there_found : (k : Key) (l : Layer ℕ) (i : ℕ) (e : Entry) → AreKnown (types_of entries) (parts_of l) → k.items ≡ layer_key l → slice_get entries i ≡ Some e
      → at (types_of entries) i ≡ mirror_with (types_of entries) l → number_at numbers k.items ≡ Some i
  there_found k l i e known same h is =
      let layers : layer_of e.node ≡ l =
      mirror_with-one (types_of entries) (layer_of e.node) l held.different (entry-parts_known entries i e held.ordered h) known
      (sym (at-types_of entries i e held.ordered h) ∙ is) in
      held.finds i e h k (same ∙ ap layer_key (sym layers))

  pub absent-none : (k : Key) (l : Layer ℕ) → AreKnown (types_of entries) (parts_of l) → k.items ≡ layer_key l → number_at numbers k.items ≡ None
      → HasNo (types_of entries) (mirror_with (types_of entries) l)
  absent-none k l known same none i h is =
      let count = length-types_of entries in
      let there = entry_there entries i (omega arith) in
      none_some (number_at numbers k.items) i none (there_found k l i there.0 known same there.1 is)

  -- ---- one type more

  module _ (e : Entry) (k : Key) (same : k.items ≡ layer_key (layer_of e.node)) (known : AreKnown (types_of entries) (parts_of (layer_of e.node)))
      (none : HasNo (types_of entries) (mirror_with (types_of entries) (layer_of e.node))) (numbers' : List (Key × ℕ))
      (updates : (q : Key) → number_at numbers' q.items ≡ cond (is_eq (slice_cmp nat_cmp k.items q.items)) (Some (length entries)) (number_at numbers q.items)) where
    abbrev more : List Entry
    more = entries ++ e ∷ []

    parts_before : AllByRecursion (λ part. part < length entries) (parts_of (layer_of e.node))
    parts_before = subst (λ (n : ℕ). AllByRecursion (λ part. part < n) (parts_of (layer_of e.node))) (length-types_of entries) known

    ordered_at : (i : ℕ) (x : Entry) → IsAt entries e i x → AllByRecursion (λ part. part < i) (parts_of (layer_of x.node))
    ordered_at i x (inl last) =
        subst (λ (y : Entry). AllByRecursion (λ part. part < i) (parts_of (layer_of y.node))) last.1
        (subst (λ (n : ℕ). AllByRecursion (λ part. part < n) (parts_of (layer_of e.node))) (sym last.0) parts_before)
    ordered_at i x (inr front) = held.ordered i x front

    -- at the new key, and at any other
    at_key : (q : Key) → k.items ≡ q.items → number_at numbers' q.items ≡ Some (length entries)
    at_key q e' = updates q ∙ ap (λ b. cond b (Some (length entries)) (number_at numbers q.items)) (keys_alike k.items q.items e')

    at_other : (q : Key) (b : Bool) → is_eq (slice_cmp nat_cmp k.items q.items) ≡ b → b ≡ false → number_at numbers' q.items ≡ number_at numbers q.items
    at_other q b is off = updates q ∙ ap (λ c. cond c (Some (length entries)) (number_at numbers q.items)) (is ∙ off)

    -- no entry so far has the new key
    not_there : (i : ℕ) (x : Entry) (q : Key) → slice_get entries i ≡ Some x → q.items ≡ layer_key (layer_of x.node) → k.items ≡ q.items → ⊥
    not_there i x q h is e' =
        let layers : layer_of x.node ≡ layer_of e.node = key-is (layer_of x.node) (layer_of e.node) (sym is ∙ sym e' ∙ same) in
        none i (entry-known entries i x h) (at-types_of entries i x held.ordered h ∙ ap (mirror_with (types_of entries)) layers)

    found_front : (i : ℕ) (x : Entry) (q : Key) (b : Bool) → slice_get entries i ≡ Some x → q.items ≡ layer_key (layer_of x.node)
        → is_eq (slice_cmp nat_cmp k.items q.items) ≡ b → number_at numbers' q.items ≡ Some i
    found_front i x q true h is alike = absurd (not_there i x q h is (alike_keys k.items q.items alike))
    found_front i x q false h is alike = at_other q false alike refl ∙ held.finds i x h q is

    finds_at : (i : ℕ) (x : Entry) → IsAt entries e i x → (q : Key) → q.items ≡ layer_key (layer_of x.node) → number_at numbers' q.items ≡ Some i
    finds_at i x (inl last) q is =
        at_key q (same ∙ ap (λ (y : Entry). layer_key (layer_of y.node)) last.1 ∙ sym is) ∙ ap (λ (n : ℕ). Some n) (sym last.0)
    finds_at i x (inr front) q is = found_front i x q (is_eq (slice_cmp nat_cmp k.items q.items)) front is refl

    kept : (items : List ℕ) (i : ℕ) → IsOfKey entries items i → IsOfKey more items i
    kept items i found = (found.0, (slice_get-front entries e i found.0 found.1.0, found.1.1))

    new_one : (q : Key) (i : ℕ) → k.items ≡ q.items → length entries ≡ i → IsOfKey more q.items i
    new_one q i e' place = (e, (subst (λ (n : ℕ). slice_get more n ≡ Some e) place (slice_get-end entries e), sym same ∙ e'))

    only_at : (q : Key) (i : ℕ) (b : Bool) → is_eq (slice_cmp nat_cmp k.items q.items) ≡ b → number_at numbers' q.items ≡ Some i → IsOfKey more q.items i
    only_at q i true alike h =
        let items = alike_keys k.items q.items alike in
        new_one q i items (some_is (length entries) i (sym (at_key q items) ∙ h))
    only_at q i false alike h = kept q.items i (held.finds_only q i (sym (at_other q false alike refl) ∙ h))

    pub held-more : AreHeld more numbers'
    held-more = record {
      ordered = λ i x h. ordered_at i x (slice_get-push entries e i x h);
      finds = λ i x h q is. finds_at i x (slice_get-push entries e i x h) q is;
      finds_only = λ q i h. only_at q i (is_eq (slice_cmp nat_cmp k.items q.items)) refl h;
      different = subst AreDifferent (sym (types_of-push entries e)) (different-next (types_of entries) (mirror_with (types_of entries) (layer_of e.node)) held.different none);
    }

  pub stands-more : (e : Entry) → Stands (types_of (entries ++ e ∷ [])) (length entries) (mirror_with (types_of entries) (layer_of e.node))
  stands-more e =
      let m : Mirror = mirror_with (types_of entries) (layer_of e.node) in
      subst (λ (ms : List Mirror). Stands ms (length entries) m) (sym (types_of-push entries e))
      (subst (λ (n : ℕ). Stands (types_of entries ++ m ∷ []) n m) (length-types_of entries) (stands-next (types_of entries) m))

  pub grows-more : (e : Entry) → Grows (types_of entries) (types_of (entries ++ e ∷ []))
  grows-more e = record { more = mirror_with (types_of entries) (layer_of e.node) ∷ []; types = types_of-push entries e }

-- ---- equality of numbers

pub same_number : (t : List Mirror) (one other : ℕ) → AreDifferent t → IsKnown t one → IsKnown t other → IsTrue (one == other) ↔ at t one ≡ at t other
same_number t one other apart known known' =
    (λ h. ap (at t) (eqb-true one other h), λ e. eq-eqb one other (apart one other known known' e))

-- ---- no types

none_held : AreHeld [] []
unfolding types_of
none_held = record {
  ordered = λ i x h. absurd cc;
  finds = λ i x h q is. absurd cc;
  finds_only = λ q i h. absurd cc;
  different = λ i j hi hj e. absurd (omega arith);
}

pub held-none : (entries : List Entry) (numbers : List (Key × ℕ)) → entries ≡ [] → numbers ≡ [] → AreHeld entries numbers
held-none entries numbers e e' = subst (λ (es : List Entry). AreHeld es numbers) (sym e) (subst (λ (ns : List (Key × ℕ)). AreHeld [] ns) (sym e') none_held)

no_types : types_of [] ≡ []
unfolding types_of
no_types = refl

pub types_of-none : (entries : List Entry) → entries ≡ [] → types_of entries ≡ []
types_of-none entries e = ap types_of e ∙ no_types

-- ---- one type more, as contracts see it

abbrev pub UpdatesAt : List (Key × ℕ) → List (Key × ℕ) → Key → ℕ → Type 0
UpdatesAt numbers numbers' k n = (q : Key) → number_at numbers' q.items ≡ cond (is_eq (slice_cmp nat_cmp k.items q.items)) (Some n) (number_at numbers q.items)

module _ (entries : List Entry) (numbers : List (Key × ℕ)) (t : List Mirror) (e : Entry) (n : ℕ) (entries' : List Entry) (held : AreHeld entries numbers)
    (shown : types_of entries ≡ t) (count : n ≡ length entries) (pushed : entries' ≡ entries ++ e ∷ []) where
  pub put-held : (k : Key) (numbers' : List (Key × ℕ)) → k.items ≡ layer_key (layer_of e.node) → AreKnown t (parts_of (layer_of e.node))
      → HasNo t (mirror_with t (layer_of e.node)) → UpdatesAt numbers numbers' k n → AreHeld entries' numbers'
  put-held k numbers' same known none updates =
      subst (λ (es : List Entry). AreHeld es numbers') (sym pushed)
      (held-more entries numbers held e k same
      (subst (λ (ms : List Mirror). AreKnown ms (parts_of (layer_of e.node))) (sym shown) known)
      (subst (λ (ms : List Mirror). HasNo ms (mirror_with ms (layer_of e.node))) (sym shown) none)
      numbers' (subst (λ (i : ℕ). UpdatesAt numbers numbers' k i) count updates))

  pub put-stands : Stands (types_of entries') n (mirror_with t (layer_of e.node))
  put-stands =
      subst (λ (es : List Entry). Stands (types_of es) n (mirror_with t (layer_of e.node))) (sym pushed)
      (subst (λ (i : ℕ). Stands (types_of (entries ++ e ∷ [])) i (mirror_with t (layer_of e.node))) (sym count)
      (subst (λ (ms : List Mirror). Stands (types_of (entries ++ e ∷ [])) (length entries) (mirror_with ms (layer_of e.node))) shown (stands-more entries numbers held e)))

  pub put-grows : Grows t (types_of entries')
  put-grows =
      subst (λ (es : List Entry). Grows t (types_of es)) (sym pushed)
      (subst (λ (ms : List Mirror). Grows ms (types_of (entries ++ e ∷ []))) shown (grows-more entries numbers held e))
