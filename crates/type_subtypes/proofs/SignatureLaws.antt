-- Parameters side by side, and the types of a method or a constructor by their layer.
use Rattle.std.proofs.Common.{◌≡◌, ℕ, zero, suc, ◌+◌, ◌<◌, ◌≤◌, length, get_or, drop, Bool, true, false, ◌&&◌, eqb, List, [], ◌∷◌, map, Option, None, Some, refl, sym, ap, ap₂, ◌∙◌, arith, if◌then◌else◌}
use Rattle.std.proofs.lemmas.Bool.{eqb-true, eq-eqb}
use Rattle.std.proofs.lemmas.List.{drop_all}
use Rattle.apt_base.specs.declared.element.ElementRef.{ElementRef}
use Rattle.element_table.specs.TypeTable.{TypeTable}
use Rattle.type_mirror.specs.declared.mirror.Mirror.{Mirror}
use Rattle.type_mirror.specs.declared.mirror.ExecutableMirror.{ExecutableMirror, out-ExecutableMirror}
use Rattle.type_mirror.specs.Substitution.{Replacements, substituted}
use Rattle.type_layers.specs.Layers.{Layer, Primitive, Declared, Error, Variable, Array, Unbounded, Extends, Super, Executable, Nothing, Void, Null, Package, executable_layer, layer}
use Rattle.type_layers.specs.Same.{same}
use Rattle.type_levels.specs.Answers.{of_test, either, both}
use Rattle.type_levels.specs.declared.answer.Answer.{Answer}
use Rattle.type_levels.specs.declared.answer.Answer.TheVariants.{Yes, Open, No}
use Rattle.type_relations.specs.Erasure.{erasure}
use Rattle.type_subtypes.specs.Subsignature.{all_same, renamed, same_renamed, is_erased, same_erased, of_executables, of_signatures, executable_in, subsignature}

-- ---- the same parameters

module _ (f : Mirror → Mirror) where
  abbrev same_from : List Mirror → List Mirror → ℕ → Bool
  same_from as' bs n = all_same (drop n as') (map f (drop n bs))

  pub all_same-apart : (as' bs : List Mirror) → (length as' ≡ length bs → ⊥) → false ≡ all_same as' (map f bs)
  all_same-apart [] [] h = absurd (h refl)
  all_same-apart [] (b ∷ bs) h = refl
  all_same-apart (a ∷ as') [] h = refl
  all_same-apart (a ∷ as') (b ∷ bs) h =
      rest (same a (f b)) (all_same as' (map f bs)) (all_same-apart as' bs (λ (e : length as' ≡ length bs). h (omega (arith, e))))
    where
      rest : (s t : Bool) → false ≡ t → false ≡ (s && t)
      rest true t e = e
      rest false t e = refl

  same_left : (as' bs : List Mirror) (n : ℕ) (a b : Mirror) → n < length as' → n < length bs → a ≡ get_or as' n a → b ≡ get_or bs n b
      → same_from as' bs n ≡ (same a (f b) && same_from as' bs (suc n))
  same_left [] bs n a b p q e h = absurd (omega (arith, p))
  same_left (x ∷ as') [] n a b p q e h = absurd (omega (arith, q))
  same_left (x ∷ as') (y ∷ bs) zero a b p q e h = ap₂ (λ (s t : Mirror). same s (f t) && all_same as' (map f bs)) (sym e) (sym h)
  same_left (x ∷ as') (y ∷ bs) (suc n) a b p q e h = same_left as' bs n a b (omega (arith, p)) (omega (arith, q)) e h

  -- one pair that is not the same decides
  pub all_same-broken : (as' bs : List Mirror) (n : ℕ) (a b c : Mirror) → n < length as' → length as' ≡ length bs → a ≡ get_or as' n a → b ≡ get_or bs n b → c ≡ f b
      → same a c ≡ false → same_from as' bs n ≡ all_same as' (map f bs) → false ≡ all_same as' (map f bs)
  all_same-broken as' bs n a b c p as_many e h is differ so_far =
      sym (ap (λ (t : Bool). t && same_from as' bs (suc n)) (ap (λ (m : Mirror). same a m) (sym is) ∙ differ))
      ∙ sym (same_left as' bs n a b p (omega (arith, p, as_many)) e h) ∙ so_far

  pub all_same-next : (as' bs : List Mirror) (n : ℕ) (a b c : Mirror) → n < length as' → length as' ≡ length bs → a ≡ get_or as' n a → b ≡ get_or bs n b → c ≡ f b
      → same a c ≡ true → same_from as' bs n ≡ all_same as' (map f bs) → same_from as' bs (n + 1) ≡ all_same as' (map f bs)
  all_same-next as' bs n a b c p as_many e h is agree so_far =
      let one : n + 1 ≡ suc n = omega arith in
      ap (λ (k : ℕ). same_from as' bs k) one
      ∙ sym (ap (λ (t : Bool). t && same_from as' bs (suc n)) (ap (λ (m : Mirror). same a m) (sym is) ∙ agree))
      ∙ sym (same_left as' bs n a b p (omega (arith, p, as_many)) e h) ∙ so_far

  pub all_same-all : (as' bs : List Mirror) (n : ℕ) → length as' ≤ n → length as' ≡ length bs → same_from as' bs n ≡ all_same as' (map f bs) → true ≡ all_same as' (map f bs)
  all_same-all as' bs n p as_many so_far =
      sym (ap₂ (λ (xs ys : List Mirror). all_same xs (map f ys)) (drop_all n as' p) (drop_all n bs (omega (arith, p, as_many)))) ∙ so_far

-- ---- with the variables renamed

apart : (m n : ℕ) (r : Bool) → eqb m n ≡ r → (m ≡ n → ⊥) → eqb m n ≡ false
apart m n true e h = absurd (h (eqb-true m n e))
apart m n false e h = e

module _ (ones : List ElementRef) (as' : List Mirror) (others : List ElementRef) (bs : List Mirror) where
  by_count : Bool → Bool
  by_count as_many = if as_many then all_same as' (map (substituted (renamed ones others)) bs) else false

  pub same_renamed-apart : (length ones ≡ length others → ⊥) → false ≡ same_renamed ones as' others bs
  unfolding same_renamed by_count
  same_renamed-apart h = sym (ap by_count (apart (length ones) (length others) (eqb (length ones) (length others)) refl h))

  pub same_renamed-paired : (by : Replacements) (all : Bool) → length ones ≡ length others → by ≡ renamed ones others → all ≡ all_same as' (map (substituted by) bs)
      → all ≡ same_renamed ones as' others bs
  unfolding same_renamed by_count
  same_renamed-paired by all e is same_all =
      same_all ∙ ap (λ (r : Replacements). all_same as' (map (substituted r) bs)) is ∙ sym (ap by_count (eq-eqb (length ones) (length others) e))

-- ---- erased parameters

module _ (table : TypeTable) (n : ℕ) where
  pub erased-open : (a b : Mirror) → erasure table n b ≡ None → Open ≡ is_erased a (erasure table n b)
  unfolding is_erased
  erased-open a b e = sym (ap (λ (m : Option Mirror). is_erased a m) e)

  pub erased-closed : (a b e : Mirror) (s : Bool) (r : Answer) → erasure table n b ≡ Some e → s ≡ same a e → r ≡ of_test s → r ≡ is_erased a (erasure table n b)
  unfolding is_erased
  erased-closed a b e s r is same_is test = test ∙ ap (λ (t : Bool). of_test t) same_is ∙ sym (ap (λ (m : Option Mirror). is_erased a m) is)

  abbrev erased_from : List Mirror → List Mirror → ℕ → Answer
  erased_from as' bs i = same_erased table n (drop i as') (drop i bs)

  both_no : (x : Answer) → No ≡ both x No
  both_no Yes = refl
  both_no Open = refl
  both_no No = refl

  pub erased-apart : (as' bs : List Mirror) → (length as' ≡ length bs → ⊥) → No ≡ same_erased table n as' bs
  erased-apart [] [] h = absurd (h refl)
  erased-apart [] (b ∷ bs) h = refl
  erased-apart (a ∷ as') [] h = refl
  erased-apart (a ∷ as') (b ∷ bs) h =
      let first = is_erased a (erasure table n b) in
      both_no first ∙ ap (λ (rest : Answer). both first rest) (erased-apart as' bs (λ (e : length as' ≡ length bs). h (omega (arith, e))))

  erased_left : (as' bs : List Mirror) (i : ℕ) (a b : Mirror) → i < length as' → i < length bs → a ≡ get_or as' i a → b ≡ get_or bs i b
      → erased_from as' bs i ≡ both (is_erased a (erasure table n b)) (erased_from as' bs (suc i))
  erased_left [] bs i a b p q e h = absurd (omega (arith, p))
  erased_left (x ∷ as') [] i a b p q e h = absurd (omega (arith, q))
  erased_left (x ∷ as') (y ∷ bs) zero a b p q e h =
      ap₂ (λ (s t : Mirror). both (is_erased s (erasure table n t)) (same_erased table n as' bs)) (sym e) (sym h)
  erased_left (x ∷ as') (y ∷ bs) (suc i) a b p q e h = erased_left as' bs i a b (omega (arith, p)) (omega (arith, q)) e h

  both_joined : (x y z : Answer) → both (both x y) z ≡ both x (both y z)
  both_joined Yes y z = refl
  both_joined No y z = refl
  both_joined Open Yes z = refl
  both_joined Open No z = refl
  both_joined Open Open Yes = refl
  both_joined Open Open Open = refl
  both_joined Open Open No = refl

  pub erased-next : (as' bs : List Mirror) (i : ℕ) (a b : Mirror) (one so_far all : Answer) → i < length as' → length as' ≡ length bs → a ≡ get_or as' i a → b ≡ get_or bs i b
      → one ≡ is_erased a (erasure table n b) → all ≡ both so_far one → both so_far (erased_from as' bs i) ≡ same_erased table n as' bs
      → both all (erased_from as' bs (i + 1)) ≡ same_erased table n as' bs
  erased-next as' bs i a b one so_far all p as_many e h is joined before =
      let next : i + 1 ≡ suc i = omega arith in
      ap₂ (λ (x : Answer) (k : ℕ). both x (erased_from as' bs k)) joined next
      ∙ both_joined so_far one (erased_from as' bs (suc i))
      ∙ ap (λ (x : Answer). both so_far (both x (erased_from as' bs (suc i)))) is
      ∙ sym (ap (λ (x : Answer). both so_far x) (erased_left as' bs i a b p (omega (arith, p, as_many)) e h))
      ∙ before

  both_yes : (x : Answer) → x ≡ both x Yes
  both_yes Yes = refl
  both_yes Open = refl
  both_yes No = refl

  pub erased-all : (as' bs : List Mirror) (i : ℕ) (all : Answer) → length as' ≤ i → length as' ≡ length bs → both all (erased_from as' bs i) ≡ same_erased table n as' bs
      → all ≡ same_erased table n as' bs
  erased-all as' bs i all p as_many before =
      both_yes all
      ∙ sym (ap (λ (x : Answer). both all x) (ap₂ (λ (xs ys : List Mirror). same_erased table n xs ys) (drop_all i as' p) (drop_all i bs (omega (arith, p, as_many)))))
      ∙ before

  -- ---- two methods or constructors

  pub signatures-given : (one other : ExecutableMirror) (vs : List ElementRef) (ps : List Mirror) (ws : List ElementRef) (qs : List Mirror) (renamed_same : Bool) (erased r : Answer)
      → vs ≡ (out-ExecutableMirror one).variables → ps ≡ (out-ExecutableMirror one).parameters → ws ≡ (out-ExecutableMirror other).variables → qs ≡ (out-ExecutableMirror other).parameters
      → renamed_same ≡ same_renamed vs ps ws qs → erased ≡ same_erased table n ps qs → r ≡ either (of_test renamed_same) erased → r ≡ of_signatures table n one other
  unfolding of_signatures
  signatures-given one other vs ps ws qs renamed_same erased r e f g h is is' joined =
      let V = (out-ExecutableMirror one).variables in
      let P = (out-ExecutableMirror one).parameters in
      joined
      ∙ ap₂ (λ (s : Bool) (x : Answer). either (of_test s) x)
      (is ∙ ap₂ (λ (v : List ElementRef) (p : List Mirror). same_renamed v p ws qs) e f ∙ ap₂ (λ (w : List ElementRef) (q : List Mirror). same_renamed V P w q) g h)
      (is' ∙ ap₂ (λ (p q : List Mirror). same_erased table n p q) f h)

  -- ---- by the layer

  pub no-other : (k l : Layer Mirror) → None ≡ executable_in l → No ≡ of_executables table n k l
  no-other k (Executable variables parameters outcome thrown) e = absurd cc
  no-other (Primitive kind) l e = refl
  no-other (Declared at enclosing arguments) l e = refl
  no-other (Error text) l e = refl
  no-other (Variable at) l e = refl
  no-other (Array item) l e = refl
  no-other Unbounded l e = refl
  no-other (Extends bound) l e = refl
  no-other (Super bound) l e = refl
  no-other Nothing l e = refl
  no-other Void l e = refl
  no-other Null l e = refl
  no-other (Package name) l e = refl
  no-other (Executable variables parameters outcome thrown) (Primitive kind) e = refl
  no-other (Executable variables parameters outcome thrown) (Declared at enclosing arguments) e = refl
  no-other (Executable variables parameters outcome thrown) (Error text) e = refl
  no-other (Executable variables parameters outcome thrown) (Variable at) e = refl
  no-other (Executable variables parameters outcome thrown) (Array item) e = refl
  no-other (Executable variables parameters outcome thrown) Unbounded e = refl
  no-other (Executable variables parameters outcome thrown) (Extends bound) e = refl
  no-other (Executable variables parameters outcome thrown) (Super bound) e = refl
  no-other (Executable variables parameters outcome thrown) Nothing e = refl
  no-other (Executable variables parameters outcome thrown) Void e = refl
  no-other (Executable variables parameters outcome thrown) Null e = refl
  no-other (Executable variables parameters outcome thrown) (Package name) e = refl

  pub no-one : (l k : Layer Mirror) → None ≡ executable_in l → No ≡ of_executables table n l k
  no-one (Executable variables parameters outcome thrown) k e = absurd cc
  no-one (Primitive kind) k e = refl
  no-one (Declared at enclosing arguments) k e = refl
  no-one (Error text) k e = refl
  no-one (Variable at) k e = refl
  no-one (Array item) k e = refl
  no-one Unbounded k e = refl
  no-one (Extends bound) k e = refl
  no-one (Super bound) k e = refl
  no-one Nothing k e = refl
  no-one Void k e = refl
  no-one Null k e = refl
  no-one (Package name) k e = refl

pub the-layer : (l k : Layer Mirror) → Some k ≡ executable_in l → k ≡ l
the-layer (Executable variables parameters outcome thrown) k e = cc
the-layer (Primitive kind) k e = absurd cc
the-layer (Declared at enclosing arguments) k e = absurd cc
the-layer (Error text) k e = absurd cc
the-layer (Variable at) k e = absurd cc
the-layer (Array item) k e = absurd cc
the-layer Unbounded k e = absurd cc
the-layer (Extends bound) k e = absurd cc
the-layer (Super bound) k e = absurd cc
the-layer Nothing k e = absurd cc
the-layer Void k e = absurd cc
the-layer Null k e = absurd cc
the-layer (Package name) k e = absurd cc

module _ (table : TypeTable) (n : ℕ) where
  -- the second one is the types of a method or a constructor
  pub beside-given : (one other : ExecutableMirror) (l : Layer Mirror) (r : Answer) → Some (executable_layer other) ≡ executable_in l → r ≡ of_signatures table n one other
      → r ≡ of_executables table n (executable_layer one) l
  unfolding of_signatures
  beside-given one other l r e is = is ∙ ap (λ (k : Layer Mirror). of_executables table n (executable_layer one) k) (the-layer l (executable_layer other) e)

  -- the first one is
  pub one-given : (a b : Mirror) (one : ExecutableMirror) (r : Answer) → Some (executable_layer one) ≡ executable_in (layer a)
      → r ≡ of_executables table n (executable_layer one) (layer b) → r ≡ subsignature table n a b
  unfolding subsignature
  one-given a b one r e is = is ∙ ap (λ (k : Layer Mirror). of_executables table n k (layer b)) (the-layer (layer a) (executable_layer one) e)

  pub none-given : (a b : Mirror) → None ≡ executable_in (layer a) → No ≡ subsignature table n a b
  unfolding subsignature
  none-given a b e = no-one table n (layer a) (layer b) e

pub ruleset paired = (
  all_same-apart,
  all_same-all,
  same_renamed-apart,
  same_renamed-paired,
  erased-open,
  erased-closed,
  erased-apart,
  erased-all,
)
