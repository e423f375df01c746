-- Lists by one element more: a test of those from a place on, what is left of the first ones, and numbers from one on.
use Rattle.std.proofs.Common.{◌≡◌, ℕ, ◌+◌, ◌-◌, ◌<◌, ◌≤◌, Bool, false, ◌||◌, suc, List, [], ◌∷◌, ◌++◌, map, filter_map, take, get_or, length, Option, None, Some, refl, sym, ap, ◌∙◌, arith}
use Rattle.std.specs.List.{list_any, range_with_len}
use Rattle.std.specs.Option.{option_to_list}
use Rattle.std.proofs.lemmas.List.{take_more}
use Rattle.std.proofs.lemmas.List.Elements.{filter_map-append}
use Rattle.std.proofs.lemmas.List.FromFn.{map-range_with_len_more}

any_from : {X : Type 0} (p : X → Bool) (f : ℕ → X) (n i : ℕ) → i < n
    → list_any p (map f (range_with_len i (n - i))) ≡ (p (f i) || list_any p (map f (range_with_len (i + 1) (n - (i + 1)))))
any_from p f n i less =
    let e : n - i ≡ suc (n - (i + 1)) = omega arith in
    ap (λ (k : ℕ). list_any p (map f (range_with_len i k))) e

-- the test of those from here on goes on behind the first of them
pub any-next : {X : Type 0} (p : X → Bool) (f : ℕ → X) (n i : ℕ) (whole : Bool) → i < n → false ≡ p (f i)
    → list_any p (map f (range_with_len i (n - i))) ≡ whole → list_any p (map f (range_with_len (i + 1) (n - (i + 1)))) ≡ whole
any-next p f n i whole less not h =
    ap (λ (b : Bool). b || list_any p (map f (range_with_len (i + 1) (n - (i + 1))))) not ∙ sym (any_from p f n i less) ∙ h

pub map-from_more : {X : Type 0} (f : ℕ → X) (first n : ℕ) → first ≤ n
    → map f (range_with_len first (n + 1 - first)) ≡ map f (range_with_len first (n - first)) ++ f n ∷ []
map-from_more f first n less =
    let e : n + 1 - first ≡ n - first + 1 = omega arith in
    ap (λ (k : ℕ). map f (range_with_len first k)) e ∙ map-range_with_len_more f first (n - first) n (omega arith)

module _ {X Y : Type 0} (h : X → Option Y) where
  filter_map-one : (x : X) → filter_map h (x ∷ []) ≡ option_to_list (h x)
  filter_map-one x = by (h x)
    where
      by : (o : Option Y) → filter_map (λ (y : X). o) (x ∷ []) ≡ option_to_list o
      by None = refl
      by (Some y) = refl

  pub filter_map-more : (xs : List X) (i : ℕ) (d : X) → i < length xs
      → filter_map h (take (i + 1) xs) ≡ filter_map h (take i xs) ++ option_to_list (h (get_or xs i d))
  filter_map-more xs i d less =
      ap (filter_map h) (take_more xs i d less)
      ∙ filter_map-append h (take i xs) (get_or xs i d ∷ [])
      ∙ ap (λ (ys : List Y). filter_map h (take i xs) ++ ys) (filter_map-one (get_or xs i d))
