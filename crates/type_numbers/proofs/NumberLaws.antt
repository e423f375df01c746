-- What a number stands for stays when types are added, and a type that has no number yet gets the next one.
use Rattle.std.proofs.Common.{◌≡◌, ◌⊎◌, ℕ, suc, ◌+◌, ◌<◌, List, [], ◌∷◌, ◌++◌, length, get_or, take, map, Option, Some, None, inl, inr, refl, sym, ap, ◌∙◌, arith}
use Rattle.std.proofs.Math.Nat.{eq-or-lt_of_le}
use Rattle.std.proofs.lemmas.List.{length-append, append_assoc, append-nil, get_or_append_left, map-append}
use Rattle.std.proofs.Math.Seq.{get_or-append_seam, take-suc}
use Rattle.type_mirror.specs.declared.mirror.Mirror.{Mirror}
use Rattle.type_layers.specs.Layers.{Layer, layer, mirror_of, parts_of}
use Rattle.type_layers.proofs.LayerLaws.{layer-mirror_of}
use Rattle.type_numbers.specs.Numbers.{no_type, at, IsKnown, AreKnown, Stands, AllStand, OptionStands, Grows, AreDifferent, HasNo, with_types, mirror_with}
use Rattle.type_numbers.proofs.LayerMaps.{all_joined, all_given, map_layer-agree, map_layer-one}

-- ---- the same types, and more

pub grown-length : (t t' : List Mirror) (g : Grows t t') → length t' ≡ length t + length g.more
grown-length t t' g = ap length g.types ∙ length-append t g.more

pub grown-known : (t t' : List Mirror) (i : ℕ) → Grows t t' → IsKnown t i → IsKnown t' i
grown-known t t' i g h = let e : length t' ≡ length t + length g.more = grown-length t t' g in omega arith

pub grown-at : (t t' : List Mirror) (i : ℕ) → Grows t t' → IsKnown t i → at t' i ≡ at t i
grown-at t t' i g h = ap (λ (ms : List Mirror). at ms i) g.types ∙ get_or_append_left t g.more no_type i h

pub grown-stands : (t t' : List Mirror) (i : ℕ) (m : Mirror) → Grows t t' → Stands t i m → Stands t' i m
grown-stands t t' i m g s = record { known = grown-known t t' i g s.known; type = grown-at t t' i g s.known ∙ s.type }

pub grown-all_known : (t t' : List Mirror) (numbers : List ℕ) → Grows t t' → AreKnown t numbers → AreKnown t' numbers
grown-all_known t t' numbers g all = all_given (IsKnown t) (IsKnown t') numbers (λ i h. grown-known t t' i g h) all

pub grown-types : (t t' : List Mirror) (numbers : List ℕ) → Grows t t' → AreKnown t numbers → map (at t') numbers ≡ map (at t) numbers
grown-types t t' [] g all = refl
grown-types t t' (i ∷ numbers) g all =
    ap (λ (m : Mirror). m ∷ map (at t') numbers) (grown-at t t' i g all.0) ∙ ap (λ (ms : List Mirror). at t i ∷ ms) (grown-types t t' numbers g all.1)

pub grown-all : (t t' : List Mirror) (numbers : List ℕ) (ms : List Mirror) → Grows t t' → AllStand t numbers ms → AllStand t' numbers ms
grown-all t t' numbers ms g s = record { known = grown-all_known t t' numbers g s.known; types = grown-types t t' numbers g s.known ∙ s.types }

pub grown-option : (t t' : List Mirror) (number : Option ℕ) (m : Option Mirror) → Grows t t' → OptionStands t number m → OptionStands t' number m
grown-option t t' None m g s = record { known = tt; type = s.type }
grown-option t t' (Some i) m g s = record {
  known = (grown-known t t' i g s.known.0, tt);
  type = ap (λ (x : Mirror). Some x) (grown-at t t' i g s.known.0) ∙ s.type;
}

-- one item more in front
pub take-next : {X : Type 0} (xs : List X) (i : ℕ) (x : X) → i < length xs → x ≡ get_or xs i x → take (i + 1) xs ≡ take i xs ++ x ∷ []
take-next xs i x h is =
    let next : i + 1 ≡ suc i = omega arith in
    ap (λ (n : ℕ). take n xs) next ∙ take-suc xs i x h ∙ ap (λ y. take i xs ++ y ∷ []) (sym is)

-- one more behind several
pub all-next : (t t' : List Mirror) (numbers : List ℕ) (ms : List Mirror) (number : ℕ) (m : Mirror) → Grows t t' → AllStand t numbers ms → Stands t' number m
    → AllStand t' (numbers ++ number ∷ []) (ms ++ m ∷ [])
all-next t t' numbers ms number m g s one =
    let front = grown-all t t' numbers ms g s in
    record {
      known = all_joined (IsKnown t') numbers (number ∷ []) front.known (one.known, tt);
      types = map-append (at t') numbers (number ∷ []) ∙ ap (λ (xs : List Mirror). xs ++ at t' number ∷ []) front.types ∙ ap (λ (x : Mirror). ms ++ x ∷ []) one.type;
    }

pub grown-layer : (t t' : List Mirror) (l : Layer ℕ) → Grows t t' → AreKnown t (parts_of l) → with_types t' l ≡ with_types t l
grown-layer t t' l g all =
    map_layer-agree (at t') (at t) l (all_given (IsKnown t) (λ i. at t' i ≡ at t i) (parts_of l) (λ i h. grown-at t t' i g h) all)

pub grown-mirror : (t t' : List Mirror) (l : Layer ℕ) → Grows t t' → AreKnown t (parts_of l) → mirror_with t' l ≡ mirror_with t l
grown-mirror t t' l g all = ap mirror_of (grown-layer t t' l g all)

pub grows-itself : (t : List Mirror) → Grows t t
grows-itself t = record { more = []; types = sym (append-nil t) }

pub grows-same : (t t' : List Mirror) → t' ≡ t → Grows t t'
grows-same t t' e = record { more = []; types = e ∙ sym (append-nil t) }

pub grows-on : (t t' t'' : List Mirror) → Grows t t' → Grows t' t'' → Grows t t''
grows-on t t' t'' g g' = record {
  more = g.more ++ g'.more;
  types = g'.types ∙ ap (λ (ms : List Mirror). ms ++ g'.more) g.types ∙ append_assoc t g.more g'.more;
}

-- ---- one type more

pub grows-next : (t : List Mirror) (m : Mirror) → Grows t (t ++ m ∷ [])
grows-next t m = record { more = m ∷ []; types = refl }

pub stands-next : (t : List Mirror) (m : Mirror) → Stands (t ++ m ∷ []) (length t) m
stands-next t m = record {
  known = let e : length (t ++ m ∷ []) ≡ length t + 1 = length-append t (m ∷ []) in omega arith;
  type = get_or-append_seam t m [] no_type;
}

-- a place is that of the new type, or one in front of it
module _ (t : List Mirror) (m : Mirror) where
  place_of : (i : ℕ) → i < length (t ++ m ∷ []) → (i ≡ length t) ⊎ (i < length t)
  place_of i h = let e : length (t ++ m ∷ []) ≡ length t + 1 = length-append t (m ∷ []) in eq-or-lt_of_le (omega arith)

  at_next : (i : ℕ) → i ≡ length t → at (t ++ m ∷ []) i ≡ m
  at_next i e = ap (at (t ++ m ∷ [])) e ∙ get_or-append_seam t m [] no_type

  at_front : (i : ℕ) → i < length t → at (t ++ m ∷ []) i ≡ at t i
  at_front i h = get_or_append_left t (m ∷ []) no_type i h

  apart_at : AreDifferent t → HasNo t m → (i j : ℕ) → (i ≡ length t) ⊎ (i < length t) → (j ≡ length t) ⊎ (j < length t) → at (t ++ m ∷ []) i ≡ at (t ++ m ∷ []) j → i ≡ j
  apart_at apart none i j (inl here) (inl there) e = here ∙ sym there
  apart_at apart none i j (inl here) (inr front) e = absurd (none j front (sym (at_front j front) ∙ sym e ∙ at_next i here))
  apart_at apart none i j (inr front) (inl there) e = absurd (none i front (sym (at_front i front) ∙ e ∙ at_next j there))
  apart_at apart none i j (inr front) (inr front') e = apart i j front front' (sym (at_front i front) ∙ e ∙ at_front j front')

  pub different-next : AreDifferent t → HasNo t m → AreDifferent (t ++ m ∷ [])
  different-next apart none i j hi hj e = apart_at apart none i j (place_of i hi) (place_of j hj) e

-- ---- mirrors by their layers

pub mirror_of-one : (l l' : Layer Mirror) → mirror_of l ≡ mirror_of l' → l ≡ l'
mirror_of-one l l' e = sym (layer-mirror_of l) ∙ ap layer e ∙ layer-mirror_of l'

-- layers of known numbers with one mirror are one
pub mirror_with-one : (t : List Mirror) (l l' : Layer ℕ) → AreDifferent t → AreKnown t (parts_of l) → AreKnown t (parts_of l') → mirror_with t l ≡ mirror_with t l' → l ≡ l'
mirror_with-one t l l' apart all all' e =
    map_layer-one (at t) (IsKnown t) (λ x y hx hy same. apart x y hx hy same) l l' all all' (mirror_of-one (with_types t l) (with_types t l') e)
