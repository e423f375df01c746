-- The places of the members of each name in a list, and in a list with one member more.
use Rattle.std.proofs.Common.{◌≡◌, ℕ, suc, ◌+◌, ◌<◌, ◌≤◌, Bool, true, false, cond, List, [], ◌∷◌, ◌++◌, length, map, get_or, refl, sym, ap, subst, ◌∙◌, append_assoc, arith, if◌then◌else◌}
use Rattle.std.proofs.lemmas.List.{length-append}
use Rattle.std.specs.Prelude.{filter}
use Rattle.std.specs.List.{AllByRecursion}
use Rattle.apt_base.specs.declared.element.ElementRef.{ElementRef}
use Rattle.element_table.specs.TypeTable.{TypeTable}
use Rattle.type_listing.specs.Listings.{listing_of, of_its_name, member_at, AreWithin, places_from, Places, places_under, AreIndexed, HasPlaceMore, HaveSamePlaces}
use Rattle.type_listing.specs.Namesakes.{key_of, has_key}

module _ (table : TypeTable) (key : List ℕ) where
  -- one place more, where a test holds
  abbrev with_place : Bool → List ℕ → ℕ → List ℕ
  with_place b places place = if b then places ++ place ∷ [] else places

  behind : (b : Bool) (first : ℕ) (places : List ℕ) (place : ℕ) → first ∷ with_place b places place ≡ with_place b (first ∷ places) place
  behind true first places place = refl
  behind false first places place = refl

  -- a member more
  places-push : (place : ℕ) (list : List ElementRef) (m : ElementRef) (last : ℕ) → last ≡ place + length list
      → places_from table key place (list ++ m ∷ []) ≡ with_place (has_key table key m) (places_from table key place list) last
  places-push place [] m last e =
      let here : place ≡ last = omega arith in
      ap (λ n. if has_key table key m then n ∷ [] else []) here
  places-push place (x ∷ list) m last e = by (has_key table key x) (places-push (suc place) list m last (omega arith))
    where
      by : (b : Bool) → places_from table key (suc place) (list ++ m ∷ []) ≡ with_place (has_key table key m) (places_from table key (suc place) list) last
          → (if b then place ∷ places_from table key (suc place) (list ++ m ∷ []) else places_from table key (suc place) (list ++ m ∷ []))
          ≡ with_place (has_key table key m) (if b then place ∷ places_from table key (suc place) list else places_from table key (suc place) list) last
      by true more = ap (λ places. place ∷ places) more ∙ behind (has_key table key m) place (places_from table key (suc place) list) last
      by false more = more

  -- each is that of a member
  places-within : (place : ℕ) (list : List ElementRef) (n : ℕ) → place + length list ≤ n → AllByRecursion (λ p. p < n) (places_from table key place list)
  places-within place [] n h = tt
  places-within place (x ∷ list) n h = by (has_key table key x) (places-within (suc place) list n (omega arith))
    where
      by : (b : Bool) → AllByRecursion (λ p. p < n) (places_from table key (suc place) list)
          → AllByRecursion (λ p. p < n) (if b then place ∷ places_from table key (suc place) list else places_from table key (suc place) list)
      by true more = (omega arith, more)
      by false more = more

  at_front : (front : List ElementRef) (m : ElementRef) (list : List ElementRef) (other : ElementRef) → get_or (front ++ m ∷ list) (length front) other ≡ m
  at_front [] m list other = refl
  at_front (x ∷ front) m list other = at_front front m list other

  -- what stands there are the members of the name
  places-named : (front list : List ElementRef) (place : ℕ) (other : ElementRef) → place ≡ length front
      → map (λ p. get_or (front ++ list) p other) (places_from table key place list) ≡ filter (has_key table key) list
  places-named front [] place other e = refl
  places-named front (x ∷ list) place other e =
      let count = length-append front (x ∷ []) in
      let rest : map (λ p. get_or ((front ++ x ∷ []) ++ list) p other) (places_from table key (suc place) list) ≡ filter (has_key table key) list =
      places-named (front ++ x ∷ []) list (suc place) other (omega arith) in
      let same : (front ++ x ∷ []) ++ list ≡ front ++ x ∷ list = append_assoc front (x ∷ []) list in
      by (has_key table key x)
      (ap (λ (n : ℕ). get_or (front ++ x ∷ list) n other) e ∙ at_front front x list other)
      (ap (λ (all : List ElementRef). map (λ p. get_or all p other) (places_from table key (suc place) list)) (sym same) ∙ rest)
    where
      by : (b : Bool) → get_or (front ++ x ∷ list) place other ≡ x
          → map (λ p. get_or (front ++ x ∷ list) p other) (places_from table key (suc place) list) ≡ filter (has_key table key) list
          → map (λ p. get_or (front ++ x ∷ list) p other) (if b then place ∷ places_from table key (suc place) list else places_from table key (suc place) list)
          ≡ cond b (x ∷ filter (has_key table key) list) (filter (has_key table key) list)
      by true here rest = λ i. here i ∷ rest i
      by false here rest = rest

-- ---- of a list and a map of places

pub indexed-push : (table : TypeTable) (list : List ElementRef) (m : ElementRef) (old new : Places) → AreIndexed table list old
    → HasPlaceMore old new (key_of table m) (length list) → AreIndexed table (list ++ m ∷ []) new
unfolding AreIndexed HasPlaceMore
indexed-push table list m old new indexed more = λ key.
    more key ∙ ap (λ places. if has_key table key m then places ++ length list ∷ [] else places) (indexed key)
    ∙ sym (places-push table key 0 list m (length list) (omega arith))

pub indexed-same : (table : TypeTable) (list : List ElementRef) (old new : Places) → AreIndexed table list old → HaveSamePlaces old new → AreIndexed table list new
unfolding AreIndexed HaveSamePlaces
indexed-same table list old new indexed same = λ key. same key ∙ indexed key

pub indexed-within : (table : TypeTable) (list : List ElementRef) (places : Places) (at : ElementRef) → AreIndexed table list places
    → AreWithin (listing_of table list) (places_under places (key_of table at))
unfolding AreIndexed
indexed-within table list places at indexed =
    subst (AreWithin (listing_of table list)) (sym (indexed (key_of table at)))
    (places-within table (key_of table at) 0 list (length list) (omega arith))

pub indexed-named : (table : TypeTable) (list : List ElementRef) (places : Places) (at : ElementRef) → AreIndexed table list places
    → map (member_at (listing_of table list) at) (places_under places (key_of table at)) ≡ of_its_name (listing_of table list) at
unfolding AreIndexed
indexed-named table list places at indexed =
    ap (map (member_at (listing_of table list) at)) (indexed (key_of table at)) ∙ places-named table (key_of table at) [] list 0 at refl
