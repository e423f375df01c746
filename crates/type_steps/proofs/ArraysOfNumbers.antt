-- Arrays of arrays, gone through item by item and made item by item.
use Rattle.std.proofs.Common.{◌≡◌, ◌<◌, ℕ, zero, suc, ◌+◌, List, [], ◌∷◌, ◌++◌, length, get_or, take, Option, Some, None, refl, sym, ap, subst, ◌∙◌, arith}
use Rattle.std.specs.Option.{option_map}
use Rattle.type_mirror.specs.declared.mirror.Mirror.{Mirror}
use Rattle.type_layers.specs.Layers.{Extends, layer, array_of, mirror_of}
use Rattle.type_numbers.specs.declared.node.Node.{Node}
use Rattle.type_numbers.specs.declared.node.Node.TheVariants as node
use Rattle.type_numbers.specs.Nodes.{layer_of}
use Rattle.type_numbers.specs.Numbers.{at, IsKnown, Stands, AllStand, Grows, with_types}
use Rattle.type_numbers.proofs.AddedTypes.{node-is}
use Rattle.type_numbers.proofs.NumberLaws.{grown-at, all-next}
use Rattle.type_relations.specs.Erasure.{erasure}
use Rattle.type_steps.specs.Arrays.{arrays, array_types, ErasesIn}
use Rattle.type_steps.proofs.LayersOfNumbers.{node-layer}
use Rattle.type_steps.proofs.ErasuresByLayers.{erasure-array, erasure-bound}

arrays_inside : (k : ℕ) (m : Mirror) → arrays k (array_of m) ≡ arrays (suc k) m
arrays_inside zero m = refl
arrays_inside (suc k) m = ap array_of (arrays_inside k m)

pub arrays-inside : (k : ℕ) (m : Mirror) → arrays k (array_of m) ≡ arrays (k + 1) m
arrays-inside k m =
    let next : suc k ≡ k + 1 = omega arith in
    arrays_inside k m ∙ ap (λ (i : ℕ). arrays i m) next

pub arrays-around : (k : ℕ) (m : Mirror) → array_of (arrays k m) ≡ arrays (k + 1) m
arrays-around k m =
    let next : suc k ≡ k + 1 = omega arith in
    ap (λ (i : ℕ). arrays i m) next

-- ---- from the outside in

pub array-is : (t : List Mirror) (number : ℕ) (n : Node) (item : ℕ) → with_types t (layer_of n) ≡ layer (at t number) → n ≡ node.Array item → array_of (at t item) ≡ at t number
unfolding mirror_of
array-is t number n item exact is = node-is t number n (node.Array item) exact is

pub item-inside : (t : List Mirror) (number : ℕ) (k item : ℕ) (n : Node) (inner : ℕ) → at t number ≡ arrays k (at t item) → with_types t (layer_of n) ≡ layer (at t item)
    → n ≡ node.Array inner → at t number ≡ arrays (k + 1) (at t inner)
item-inside t number k item n inner whole exact is =
    whole ∙ ap (arrays k) (sym (array-is t item n inner exact is)) ∙ arrays-inside k (at t inner)

-- ---- erasures

option_same : (o : Option Mirror) → o ≡ option_map (arrays zero) o
option_same None = refl
option_same (Some m) = refl

option_inside : (k : ℕ) (o : Option Mirror) → option_map (arrays k) (option_map array_of o) ≡ option_map (arrays (k + 1)) o
option_inside k None = refl
option_inside k (Some m) = ap (λ (x : Mirror). Some x) (arrays-inside k m)

pub erases-inside : (t : List Mirror) (m : Mirror) (k item : ℕ) (n : Node) (inner : ℕ) → ErasesIn m k (at t item) → with_types t (layer_of n) ≡ layer (at t item)
    → n ≡ node.Array inner → ErasesIn m (k + 1) (at t inner)
erases-inside t m k item n inner whole exact is = λ table steps.
    whole table steps
    ∙ ap (λ (x : Mirror). option_map (arrays k) (erasure table steps x)) (sym (array-is t item n inner exact is))
    ∙ ap (option_map (arrays k)) (erasure-array table steps (at t inner))
    ∙ option_inside k (erasure table steps (at t inner))

pub erases-bound : (t : List Mirror) (m : Mirror) (k item : ℕ) (n : Node) (bound : ℕ) → ErasesIn m k (at t item) → with_types t (layer_of n) ≡ layer (at t item)
    → n ≡ node.Extends bound → ErasesIn m k (at t bound)
erases-bound t m k item n bound whole exact is = λ table steps.
    whole table steps ∙ ap (option_map (arrays k)) (erasure-bound table steps (at t item) (at t bound) (node-layer t item n (node.Extends bound) exact is))

-- ---- from the inside out

-- one array more
pub stands-around : (t t' t'' : List Mirror) (number made item k : ℕ) → Stands t' number (arrays k (at t item)) → Stands t'' made (array_of (at t' number))
    → Stands t'' made (arrays (k + 1) (at t item))
stands-around t t' t'' number made item k inner one = record {
  known = one.known;
  type = one.type ∙ ap array_of inner.type ∙ arrays-around k (at t item);
}

-- ---- arrays of several types

map_more : (t : List Mirror) (items : List ℕ) (i : ℕ) → i < length items → array_types t (take (i + 1) items) ≡ array_types t (take i items) ++ array_of (at t (get_or items i 0)) ∷ []
map_more t [] i less = absurd (omega (arith, less))
map_more t (item ∷ items) zero less = refl
map_more t (item ∷ items) (suc i) less =
    let next : suc i + 1 ≡ suc (i + 1) = omega arith in
    ap (λ (n : ℕ). array_types t (take n (item ∷ items))) next
    ∙ ap (λ (ms : List Mirror). array_of (at t item) ∷ ms) (map_more t items i (omega (arith, less)))

pub arrays-next : (t t' t'' : List Mirror) (items : List ℕ) (i made : ℕ) (all : List ℕ) → Grows t t' → IsKnown t (get_or items i 0) → i < length items
    → AllStand t' all (array_types t (take i items)) → Grows t' t'' → Stands t'' made (array_of (at t' (get_or items i 0)))
    → AllStand t'' (all ++ made ∷ []) (array_types t (take (i + 1) items))
arrays-next t t' t'' items i made all g known less so_far g' one =
    let item = get_or items i 0 in
    let here : Stands t'' made (array_of (at t item)) = record { known = one.known; type = one.type ∙ ap array_of (grown-at t t' item g known) } in
    subst (λ (ms : List Mirror). AllStand t'' (all ++ made ∷ []) ms) (sym (map_more t items i less))
    (all-next t' t'' all (array_types t (take i items)) made (array_of (at t item)) g' so_far here)
