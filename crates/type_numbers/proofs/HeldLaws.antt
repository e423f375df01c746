-- The types that nodes stand for: the next node gives the next type, and each type has the layer of its node.
use Rattle.std.proofs.Common.{◌≡◌, ℕ, zero, suc, ◌+◌, ◌<◌, List, [], ◌∷◌, ◌++◌, length, get_or, fold, Some, refl, sym, ap, subst, ◌∙◌, arith}
use Rattle.std.proofs.lemmas.List.{length-append}
use Rattle.std.proofs.lemmas.List.Sums.{fold-append}
use Rattle.std.proofs.lemmas.Option.{slice_get_within, slice_get_read}
use Rattle.std.specs.List.{AllByRecursion, slice_get}
use Rattle.apt_base.proofs.FieldsLemmas.{some_is}
use Rattle.type_mirror.specs.declared.mirror.Mirror.{Mirror}
use Rattle.type_layers.specs.Layers.{layer, parts_of}
use Rattle.type_layers.proofs.LayerLaws.{layer-mirror_of}
use Rattle.type_numbers.specs.Nodes.{layer_of}
use Rattle.type_numbers.specs.Numbers.{at, IsKnown, AreKnown, Stands, Grows, with_types, mirror_with}
use Rattle.type_numbers.specs.Held.{with_entry, types_of, AreInOrder}
use Rattle.type_numbers.specs.declared.entry.Entry.{Entry}
use Rattle.type_numbers.proofs.LayerMaps.{all_given}
use Rattle.type_numbers.proofs.NumberLaws.{grows-itself, grows-on, grows-next, grown-at, grown-mirror, stands-next}

abbrev pub with_all : List Mirror → List Entry → List Mirror
with_all types entries = fold with_entry types entries

pub grows-with_all : (types : List Mirror) (entries : List Entry) → Grows types (with_all types entries)
grows-with_all types [] = grows-itself types
grows-with_all types (e ∷ entries) =
    grows-on types (with_entry types e) (with_all (with_entry types e) entries) (grows-next types (mirror_with types (layer_of e.node))) (grows-with_all (with_entry types e) entries)

next_length : (types : List Mirror) (e : Entry) → length (with_entry types e) ≡ length types + 1
next_length types e = length-append types (mirror_with types (layer_of e.node) ∷ [])

length-with_all : (types : List Mirror) (entries : List Entry) → length (with_all types entries) ≡ length types + length entries
length-with_all types [] = omega arith
length-with_all types (e ∷ entries) =
    let more = length-with_all (with_entry types e) entries in
    let one = next_length types e in
    omega arith

pub length-types_of : (entries : List Entry) → length (types_of entries) ≡ length entries
unfolding types_of
length-types_of entries = let all : length (with_all [] entries) ≡ 0 + length entries = length-with_all [] entries in all ∙ omega arith

pub types_of-push : (entries : List Entry) (e : Entry) → types_of (entries ++ e ∷ []) ≡ with_entry (types_of entries) e
unfolding types_of
types_of-push entries e = fold-append with_entry [] entries (e ∷ [])

abbrev Below : ℕ → Entry → Type 0
Below n e = AllByRecursion (λ part. part < n) (parts_of (layer_of e.node))

-- at the first entry
at_first : (types : List Mirror) (e : Entry) (entries : List Entry) → Below (length types) e
    → at (with_all types (e ∷ entries)) (length types) ≡ mirror_with (with_all types (e ∷ entries)) (layer_of e.node)
at_first types e entries below =
    let stands = stands-next types (mirror_with types (layer_of e.node)) in
    grown-at (with_entry types e) (with_all types (e ∷ entries)) (length types) (grows-with_all (with_entry types e) entries) stands.known
    ∙ stands.type
    ∙ sym (grown-mirror types (with_all types (e ∷ entries)) (layer_of e.node) (grows-with_all types (e ∷ entries)) below)

at_with_all : (types : List Mirror) (entries : List Entry) (i : ℕ) (e : Entry) → slice_get entries i ≡ Some e → Below (length types + i) e
    → at (with_all types entries) (length types + i) ≡ mirror_with (with_all types entries) (layer_of e.node)
at_with_all types [] i e h below = absurd cc
at_with_all types (first ∷ entries) zero e h below =
    let place : length types ≡ length types + 0 = omega arith in
    let here : first ≡ e = some_is first e h in
    let first_below : Below (length types) first = subst (λ (x : Entry). Below (length types) x) (sym here) (subst (λ (n : ℕ). Below n e) (sym place) below) in
    ap (at (with_all types (first ∷ entries))) (sym place)
    ∙ at_first types first entries first_below
    ∙ ap (λ (x : Entry). mirror_with (with_all types (first ∷ entries)) (layer_of x.node)) here
at_with_all types (first ∷ entries) (suc i) e h below =
    let one = next_length types first in
    let place : length (with_entry types first) + i ≡ length types + suc i = omega arith in
    ap (at (with_all types (first ∷ entries))) (sym place)
    ∙ at_with_all (with_entry types first) entries i e h (subst (λ (n : ℕ). Below n e) (sym place) below)

-- each type is the one with the layer of its node
pub at-types_of : (entries : List Entry) (i : ℕ) (e : Entry) → AreInOrder entries → slice_get entries i ≡ Some e
    → at (types_of entries) i ≡ mirror_with (types_of entries) (layer_of e.node)
unfolding types_of
at-types_of entries i e ordered h =
    let place : i ≡ 0 + i = omega arith in
    ap (at (with_all [] entries)) place ∙ at_with_all [] entries i e h (subst (λ (n : ℕ). Below n e) place (ordered i e h))

pub entry-known : (entries : List Entry) (i : ℕ) (e : Entry) → slice_get entries i ≡ Some e → IsKnown (types_of entries) i
entry-known entries i e h =
    let within : i < length entries = slice_get_within entries i e h in
    let same = length-types_of entries in
    omega arith

pub entry-stands : (entries : List Entry) (i : ℕ) (e : Entry) → AreInOrder entries → slice_get entries i ≡ Some e
    → Stands (types_of entries) i (mirror_with (types_of entries) (layer_of e.node))
entry-stands entries i e ordered h = record { known = entry-known entries i e h; type = at-types_of entries i e ordered h }

pub entry-layer : (entries : List Entry) (i : ℕ) (e : Entry) → AreInOrder entries → slice_get entries i ≡ Some e
    → with_types (types_of entries) (layer_of e.node) ≡ layer (at (types_of entries) i)
entry-layer entries i e ordered h = sym (layer-mirror_of (with_types (types_of entries) (layer_of e.node))) ∙ ap layer (sym (at-types_of entries i e ordered h))

-- what is below a number is known where it is
pub below-known : (types : List Mirror) (i : ℕ) (parts : List ℕ) → IsKnown types i → AllByRecursion (λ part. part < i) parts → AreKnown types parts
below-known types i parts h all = all_given (λ part. part < i) (IsKnown types) parts (λ part below. omega arith) all

pub entry-parts_known : (entries : List Entry) (i : ℕ) (e : Entry) → AreInOrder entries → slice_get entries i ≡ Some e → AreKnown (types_of entries) (parts_of (layer_of e.node))
entry-parts_known entries i e ordered h = below-known (types_of entries) i (parts_of (layer_of e.node)) (entry-known entries i e h) (ordered i e h)

-- ---- as contracts see it, by the types that they show

pub within : (entries : List Entry) (t : List Mirror) (i : ℕ) → types_of entries ≡ t → IsKnown t i → i < length entries
within entries t i shown h = let count : length t ≡ length entries = sym (ap length shown) ∙ length-types_of entries in omega arith

pub node-exact : (entries : List Entry) (t : List Mirror) (i : ℕ) (e : Entry) → types_of entries ≡ t → AreInOrder entries → IsKnown t i → e ≡ get_or entries i e
    → with_types t (layer_of e.node) ≡ layer (at t i)
node-exact entries t i e shown ordered h is =
    let there = slice_get_read entries (length entries) i e refl (within entries t i shown h) is in
    subst (λ (ms : List Mirror). with_types ms (layer_of e.node) ≡ layer (at ms i)) shown (entry-layer entries i e ordered there)

pub node-below : (entries : List Entry) (t : List Mirror) (i : ℕ) (e : Entry) → types_of entries ≡ t → AreInOrder entries → IsKnown t i → e ≡ get_or entries i e
    → AllByRecursion (λ part. part < i) (parts_of (layer_of e.node))
node-below entries t i e shown ordered h is = ordered i e (slice_get_read entries (length entries) i e refl (within entries t i shown h) is)
