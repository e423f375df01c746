-- What a map of places has under each key after one place was added.
use Rattle.std.proofs.Common.{◌≡◌, ℕ, Bool, true, false, cond, List, [], ◌∷◌, ◌++◌, length, map, Option, None, Some, IsSome, Result, Ok, Err, OnErr, String, string_bytes, Vec, is_some, refl, sym, ap, subst, ◌∙◌, if◌then◌else◌}
use Rattle.std.proofs.lemmas.Map.Text.{btree_map_updates_text}
use Rattle.std.proofs.lemmas.Slice.Eq.{bytes_eq-Decides}
use Rattle.std.specs.BTreeMap.{is_at, get_by_text, UpdatesBy}
use Rattle.std.specs.Cmp.Lexicographic.{slice_cmp}
use Rattle.std.specs.Option.{option_map_or}
use Rattle.std.specs.Map.{lookup}
use Rattle.std.specs.Ordering.{nat_cmp}
use Rattle.std.specs.Str.{bytes_eq}
use Rattle.std.specs.String.{string_cmp}
use Rattle.std.specs.declared.alloc.Global.{Global}
use Rattle.apt_base.specs.declared.element.ElementRef.{ElementRef}
use Rattle.element_table.specs.TypeTable.{TypeTable}
use Rattle.type_listing.specs.Listings.{Listed, listing_of, of_its_name, member_at, AreWithin, Places, places_from, places_under, AreIndexed, HasPlaceMore, HaveSamePlaces}
use Rattle.type_listing.specs.Namesakes.{key_of}
use Rattle.type_listing.proofs.PlacesOfNames.{indexed-push, indexed-within, indexed-named}

abbrev items_in : Option (Vec ℕ Global) → List ℕ
items_in found = option_map_or (λ f. f.items) found []

module _ (old new : Places) (key : List ℕ) (now : Vec ℕ Global)
    (updates : UpdatesBy string_cmp (λ k. slice_cmp nat_cmp key (string_bytes k)) old new (Some now)) where
  -- at the key, and at any other
  under : (q : List ℕ) → places_under new q ≡ (if bytes_eq key q then now.items else places_under old q)
  under q = ap items_in (btree_map_updates_text key old new (Some now) updates q) ∙ by (bytes_eq key q)
    where
      by : (b : Bool) → items_in (cond b (Some now) (get_by_text old q)) ≡ (if b then now.items else places_under old q)
      by true = refl
      by false = refl

  -- what stood there, by the bytes of an equal key
  at_key : (q : List ℕ) → bytes_eq key q ≡ true → places_under old key ≡ places_under old q
  at_key q e = ap (places_under old) ((bytes_eq-Decides key q).0 e)

  more : (place : ℕ) → now.items ≡ places_under old key ++ place ∷ [] → HasPlaceMore old new key place
  unfolding HasPlaceMore
  more place e = λ q. under q ∙ by q (bytes_eq key q) refl
    where
      by : (q : List ℕ) (b : Bool) → bytes_eq key q ≡ b
          → (if b then now.items else places_under old q) ≡ (if b then places_under old q ++ place ∷ [] else places_under old q)
      by q true is = e ∙ ap (λ places. places ++ place ∷ []) (at_key q is)
      by q false is = refl

  kept : now.items ≡ places_under old key → HaveSamePlaces old new
  unfolding HaveSamePlaces
  kept e = λ q. under q ∙ by q (bytes_eq key q) refl
    where
      by : (q : List ℕ) (b : Bool) → bytes_eq key q ≡ b → (if b then now.items else places_under old q) ≡ places_under old q
      by q true is = e ∙ at_key q is
      by q false is = refl

-- what a map is once what stands at a key ends so
abbrev Ends : Places → Places → List ℕ → Vec ℕ Global → Type 0
Ends old new key now = IsSome (get_by_text old key) → UpdatesBy string_cmp (λ k. slice_cmp nat_cmp key (string_bytes k)) old new (Some now)

pub first_place : (old new : Places) (key : List ℕ) (now : Vec ℕ Global) (place : ℕ) → get_by_text old key ≡ None → now.items ≡ [] ++ place ∷ []
    → UpdatesBy string_cmp (λ k. slice_cmp nat_cmp key (string_bytes k)) old new (Some now) → HasPlaceMore old new key place
first_place old new key now place none e updates = more old new key now updates place (e ∙ ap (λ (f : Option (Vec ℕ Global)). items_in f ++ place ∷ []) (sym none))

-- by a text that has the bytes of the key
pub next_place : (old new : Places) (lent key : List ℕ) (found now : Vec ℕ Global) (place : ℕ) → lent ≡ key → get_by_text old lent ≡ Some found
    → now.items ≡ found.items ++ place ∷ [] → Ends old new lent now → HasPlaceMore old new key place
next_place old new lent key found now place same there e ends =
    subst (λ (k : List ℕ). HasPlaceMore old new k place) same
    (more old new lent now (ends (ap is_some there)) place (e ∙ ap (λ (f : Option (Vec ℕ Global)). items_in f ++ place ∷ []) (sym there)))

pub same_place : (old new : Places) (lent : List ℕ) (found now : Vec ℕ Global) → get_by_text old lent ≡ Some found
    → now.items ≡ found.items → Ends old new lent now → HaveSamePlaces old new
same_place old new lent found now there e ends = kept old new lent now (ends (ap is_some there)) (e ∙ ap items_in (sym there))

-- what holds of a call that was refused
pub refused : {A E P : Type 0} (result : Result A E) → P → OnErr result P
refused (Ok value) p = tt
refused (Err fault) p = p

-- a map with the same entries
pub same_places : (old new : Places) → new.entries ≡ old.entries → HaveSamePlaces old new
unfolding HaveSamePlaces
same_places old new e = λ q. ap (λ (es : List (String Global × Vec ℕ Global)). items_in (lookup (is_at (λ k. slice_cmp nat_cmp q (string_bytes k))) es)) e

-- a map without entries
pub no_places : (table : TypeTable) (list : List ElementRef) (places : Places) → list ≡ [] → places.entries ≡ [] → AreIndexed table list places
unfolding AreIndexed
no_places table list places none e = λ key.
    ap (λ (es : List (String Global × Vec ℕ Global)). items_in (lookup (is_at (λ k. slice_cmp nat_cmp key (string_bytes k))) es)) e
    ∙ ap (places_from table key 0) (sym none)

-- ---- what is found by a text that has the bytes of a key

module _ (l : Listed) (table : TypeTable) (list : List ElementRef) (places : Places) (shown : listing_of table list ≡ l) (indexed : AreIndexed table list places)
    (at : ElementRef) (lent : List ℕ) (same : lent ≡ key_of table at) where
  named_under : map (member_at l at) (places_under places lent) ≡ of_its_name l at
  named_under =
      subst (λ (x : Listed). map (member_at x at) (places_under places lent) ≡ of_its_name x at) shown
      (ap (λ (k : List ℕ). map (member_at (listing_of table list) at) (places_under places k)) same ∙ indexed-named table list places at indexed)

  pub none_named : get_by_text places lent ≡ None → map (member_at l at) [] ≡ of_its_name l at
  none_named none = ap (λ (f : Option (Vec ℕ Global)). map (member_at l at) (items_in f)) (sym none) ∙ named_under

  pub some_named : (found : Vec ℕ Global) → get_by_text places lent ≡ Some found → map (member_at l at) found.items ≡ of_its_name l at
  some_named found there = ap (λ (f : Option (Vec ℕ Global)). map (member_at l at) (items_in f)) (sym there) ∙ named_under

  pub some_within : (found : Vec ℕ Global) → get_by_text places lent ≡ Some found → AreWithin l found.items
  some_within found there =
      subst (λ (f : Option (Vec ℕ Global)). AreWithin l (items_in f)) there
      (subst (λ (x : Listed). AreWithin x (places_under places lent)) shown
      (subst (λ (k : List ℕ). AreWithin (listing_of table list) (places_under places k)) (sym same) (indexed-within table list places at indexed)))

-- ---- a member more

pub indexed-next : (table : TypeTable) (list kept more : List ElementRef) (at : ElementRef) (old new : Places) (key : List ℕ) (place : ℕ)
    → kept ≡ list → more ≡ kept ++ at ∷ [] → AreIndexed table list old → HasPlaceMore old new key place → key ≡ key_of table at → place ≡ length kept
    → AreIndexed table more new
indexed-next table list kept more at old new key place same is indexed added named count =
    let number : place ≡ length list = count ∙ ap length same in
    let added_here : HasPlaceMore old new (key_of table at) (length list) =
    subst (λ (n : ℕ). HasPlaceMore old new (key_of table at) n) number (subst (λ (k : List ℕ). HasPlaceMore old new k place) named added) in
    subst (λ (xs : List ElementRef). AreIndexed table xs new) (sym (is ∙ ap (λ (xs : List ElementRef). xs ++ at ∷ []) same))
    (indexed-push table list at old new indexed added_here)
