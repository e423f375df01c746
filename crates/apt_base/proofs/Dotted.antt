-- The parts of a text that dots join, and texts that are none of a list of words.
use Rattle.std.proofs.Common.{◌≡◌, ℕ, zero, suc, ◌+◌, ◌<◌, Bool, true, false, cond, eqb, ◌&&◌, List, [], ◌∷◌, ◌++◌, length, get_or, drop, refl, sym, ap, subst, ◌∙◌, append_assoc, add-zero, lit<, arith}
use Rattle.std.specs.List.{list_any, AllByRecursion}
use Rattle.std.specs.Str.{bytes_eq, IsUtf8}
use Rattle.std.proofs.lemmas.List.{drop_at, length-append, get_or-append-add}
use Rattle.std.proofs.lemmas.Str.{IsUtf8-drop, IsCharBoundary-after_ascii}
use Rattle.std.proofs.lemmas.Bool.{false_from_ne_true, eqb-true}
use Rattle.std.proofs.lemmas.Slice.Eq.{bytes_eq-Decides}
use Rattle.apt_base.specs.Identifiers.{parts, to_first, names_then, is_identifier, HasNoDot}

pub none_is : (text : List ℕ) (words : List (List ℕ)) → AllByRecursion (λ word. text ≡ word → ⊥) words → list_any (bytes_eq text) words ≡ false
none_is text [] none = refl
none_is text (word ∷ words) none =
    let differs : bytes_eq text word ≡ false = false_from_ne_true _ (λ same. none.0 ((bytes_eq-Decides text word).0 same)) in
    rw differs (none_is text words none.1)

not_first : (c : ℕ) (cs : List ℕ) → HasNoDot (c ∷ cs) → eqb c 46 ≡ false
not_first c cs none = false_from_ne_true _ (λ same. none zero (omega arith) (eqb-true c 46 same))

pub parts-without : (text : List ℕ) → HasNoDot text → parts text ≡ text ∷ []
parts-without [] none = refl
parts-without (c ∷ cs) none = rw (not_first c cs none, parts-without cs (λ i lt. none (suc i) (omega arith))) refl

pub parts-split : (first after : List ℕ) → HasNoDot first → parts (first ++ (46 ∷ after)) ≡ first ∷ parts after
parts-split [] after none = refl
parts-split (c ∷ cs) after none = rw (not_first c cs none, parts-split cs after (λ i lt. none (suc i) (omega arith))) refl

some_part_at : (dot : Bool) (c : ℕ) (all : List (List ℕ)) → (part : List ℕ) × (others : List (List ℕ)) × (cond dot ([] ∷ all) (to_first c all) ≡ part ∷ others)
some_part_at true c all = ([], all, refl)
some_part_at false c [] = (c ∷ [], [], refl)
some_part_at false c (part ∷ others) = (c ∷ part, others, refl)

some_part : (text : List ℕ) → (part : List ℕ) × (others : List (List ℕ)) × (parts text ≡ part ∷ others)
some_part [] = ([], [], refl)
some_part (c ∷ cs) = some_part_at (eqb c 46) c (parts cs)

names_then-split : (ends : List ℕ → Bool) (rest first after : List ℕ) → rest ≡ first ++ (46 ∷ after) → HasNoDot first → names_then ends (parts rest) ≡ (is_identifier first && names_then ends (parts after))
names_then-split ends rest first after e none =
    let s = some_part after in
    rw (e, parts-split first after none, s.2) refl

pub utf8_after : (rest first after : List ℕ) → rest ≡ first ++ (46 ∷ after) → IsUtf8 rest → IsUtf8 after
utf8_after rest first after e text =
    let at : get_or (first ++ (46 ∷ after)) (length first + 0) 0 ≡ 46 = get_or-append-add first (46 ∷ after) 0 0 in
    let here : get_or rest (length first) 0 ≡ 46 = rw (e, ← add-zero (length first)) at in
    let lt : length first < length rest = rw e (omega (arith, length-append first (46 ∷ after))) in
    let ascii : get_or rest (length first) 0 < 128 = rw here (lit< tt) in
    let whole : rest ≡ (first ++ (46 ∷ [])) ++ after = e ∙ sym (append_assoc first (46 ∷ []) after) in
    let left : drop (length first + 1) rest ≡ after = rw whole (drop_at (first ++ (46 ∷ [])) after (length first + 1) (length-append first (46 ∷ []))) in
    subst IsUtf8 left (IsUtf8-drop rest (length first + 1) text (IsCharBoundary-after_ascii rest (length first) text lt ascii))

-- what is left of a text decides for the whole text
pub names_then-ends : (ends : List ℕ → Bool) (text rest first after : List ℕ) → rest ≡ first ++ (46 ∷ after) → HasNoDot first → names_then ends (parts rest) ≡ names_then ends (parts text) → false ≡ is_identifier first → false ≡ names_then ends (parts text)
names_then-ends ends text rest first after e none so_far fails =
    ap (λ (b : Bool). b && names_then ends (parts after)) fails ∙ sym (names_then-split ends rest first after e none) ∙ so_far

pub names_then-goes : (ends : List ℕ → Bool) (text rest first after : List ℕ) → rest ≡ first ++ (46 ∷ after) → HasNoDot first → names_then ends (parts rest) ≡ names_then ends (parts text) → true ≡ is_identifier first → names_then ends (parts after) ≡ names_then ends (parts text)
names_then-goes ends text rest first after e none so_far holds =
    ap (λ (b : Bool). b && names_then ends (parts after)) holds ∙ sym (names_then-split ends rest first after e none) ∙ so_far

pub names_then-done : (ends : List ℕ → Bool) (text rest : List ℕ) → HasNoDot rest → names_then ends (parts rest) ≡ names_then ends (parts text) → ends rest ≡ names_then ends (parts text)
names_then-done ends text rest none so_far = sym (rw (parts-without rest none) refl) ∙ so_far
