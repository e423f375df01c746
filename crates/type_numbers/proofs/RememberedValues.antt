-- Values at numbers that each have a property: of none, of the same ones, and of one more.
use Rattle.std.proofs.Common.{◌≡◌, ℕ, Bool, true, false, cond, Some, None, refl, sym, ap, subst, ◌∙◌}
use Rattle.std.specs.BTreeMap.{BTreeMap, get, is_at, IsEmpty, IsUnchanged}
use Rattle.std.specs.FinMap.{nat_cmp-IsAntisymmetric}
use Rattle.std.specs.Map.{lookup}
use Rattle.std.specs.Ordering.{nat_cmp, is_eq}
use Rattle.std.specs.declared.cmp.Ordering.{Ordering}
use Rattle.std.specs.declared.cmp.Ordering.TheVariants.{Less, Equal, Greater}
use Rattle.apt_base.proofs.FieldsLemmas.{some_is}
use Rattle.type_numbers.specs.Remembered.{EachHas}

equal_from : (o : Ordering) → is_eq o ≡ true → o ≡ Equal
equal_from Less e = absurd cc
equal_from Equal e = refl
equal_from Greater e = absurd cc

module _ {V : Type 0} where
  pub each-weaker : (P Q : ℕ → V → Type 0) (held : BTreeMap ℕ V) → ((n : ℕ) (v : V) → P n v → Q n v) → EachHas P held → EachHas Q held
  unfolding EachHas
  each-weaker P Q held k all number value here = k number value (all number value here)

  module _ (P : ℕ → V → Type 0) where
    pub each-none : (held : BTreeMap ℕ V) → IsEmpty held → EachHas P held
    unfolding EachHas
    each-none held empty number value here =
        let none : None ≡ Some value = sym (ap (lookup (is_at (nat_cmp number))) empty) ∙ here in
        absurd cc

    pub each-same : (held held' : BTreeMap ℕ V) → IsUnchanged held held' → EachHas P held → EachHas P held'
    unfolding EachHas
    each-same held held' same all number value here = all number value (sym (ap (lookup (is_at (nat_cmp number))) same) ∙ here)

    pub each-found : (held : BTreeMap ℕ V) (number : ℕ) (value : V) → EachHas P held → get nat_cmp held number ≡ Some value → P number value
    unfolding EachHas
    each-found held number value all here = all number value here

    -- by how the two numbers compare
    module _ (held held' : BTreeMap ℕ V) (number : ℕ) (value : V) (all : (q : ℕ) (v : V) → get nat_cmp held q ≡ Some v → P q v)
        (updates : (q : ℕ) → get nat_cmp held' q ≡ cond (is_eq (nat_cmp number q)) (Some value) (get nat_cmp held q)) (has : P number value) where
      more_at : (q : ℕ) (v : V) (b : Bool) → is_eq (nat_cmp number q) ≡ b → get nat_cmp held' q ≡ Some v → P q v
      more_at q v true alike got =
          let same : Some value ≡ Some v = sym (updates q ∙ ap (λ (b : Bool). cond b (Some value) (get nat_cmp held q)) alike) ∙ got in
          subst (λ (n : ℕ). P n v) (nat_cmp-IsAntisymmetric number q (equal_from (nat_cmp number q) alike)) (subst (λ (x : V). P number x) (some_is value v same) has)
      more_at q v false alike got = all q v (sym (updates q ∙ ap (λ (b : Bool). cond b (Some value) (get nat_cmp held q)) alike) ∙ got)

    pub each-more : (held held' : BTreeMap ℕ V) (number : ℕ) (value : V) → EachHas P held
        → ((q : ℕ) → get nat_cmp held' q ≡ cond (is_eq (nat_cmp number q)) (Some value) (get nat_cmp held q)) → P number value → EachHas P held'
    unfolding EachHas
    each-more held held' number value all updates has q v got = more_at held held' number value all updates has q v (is_eq (nat_cmp number q)) refl got
