-- What places there are at a name after one was added, and the places of items by their origins.
use Rattle.std.proofs.Common.{◌≡◌, ℕ, ◌+◌, ◌<◌, Bool, true, false, cond, List, [], ◌∷◌, ◌++◌, length, get_or, Option, None, Some, IsSome, Result, Ok, Err, OnOk, OnErr, is_some, String, string_bytes, if◌then◌else◌, refl, sym, ap, subst, ◌∙◌, append_assoc}
use Rattle.std.specs.BTreeMap as tree
use Rattle.std.specs.BTreeMap.{BTreeMap, UpdatesBy}
use Rattle.std.specs.Ordering.{nat_cmp}
use Rattle.std.specs.String.{string_cmp}
use Rattle.std.specs.Str.{bytes_eq}
use Rattle.std.specs.Cmp.Lexicographic.{slice_cmp, nat_list_cmp_total}
use Rattle.std.specs.Ordering.{eq_by_cmp}
use Rattle.std.specs.FinMap as fin
use Rattle.std.specs.FinMap.{FinMap, get-insert, get-empty, same_map}
use Rattle.std.specs.declared.alloc.Global.{Global}
use Rattle.std.proofs.lemmas.Map.Text.{is_eq-slice_cmp}
use Rattle.apt_base.proofs.NameSets.{exact_names, same_name}
use Rattle.apt_filer.specs.Origins.{Origin, One, Several, Missing, is_unit}
use Rattle.name_index.proofs.TextMaps.{get-shown, shown-insert}
use Rattle.run_entries.specs.Maps.{PlaceMap, or_none, places_at, with_place, with_origin, places_of}
use Rattle.run_entries.proofs.PositionLemmas.{rest_at, next}

-- ---- one place more

pub at-with : (places : PlaceMap) (name : List ℕ) (place : ℕ) (unit : List ℕ) → places_at (with_place places name place) unit ≡ (if bytes_eq unit name then places_at places unit ++ place ∷ [] else places_at places unit)
at-with places name place unit =
    ap or_none (get-insert nat_list_cmp_total places name (places_at places name ++ place ∷ []) unit)
    ∙ ap (λ (b : Bool). or_none (cond b (Some (places_at places name ++ place ∷ [])) (fin.get places unit))) (is_eq-slice_cmp unit name)
    ∙ there (bytes_eq unit name) refl
  where
    there : (b : Bool) → bytes_eq unit name ≡ b → or_none (cond b (Some (places_at places name ++ place ∷ [])) (fin.get places unit)) ≡ (if b then places_at places unit ++ place ∷ [] else places_at places unit)
    there true e = ap (λ n. places_at places n ++ place ∷ []) (sym (same_name unit name (is_eq-slice_cmp unit name ∙ e)))
    there false e = refl

pub at-empty : (unit : List ℕ) → places_at fin.empty unit ≡ []
at-empty unit = ap or_none (get-empty (slice_cmp nat_cmp) unit)

-- ---- the places of the items of each origin, as far as they were gone through

module _ {A : Type 0} (origin : A → Origin) (items : List A) where
  abbrev pub is_from : List ℕ → A → Bool
  is_from unit x = is_unit unit (origin x)

  -- what is found and what is left to find
  abbrev pub Finds : PlaceMap → ℕ → Type 0
  Finds places i = (unit : List ℕ) → places_at places unit ++ rest_at (is_from unit) items i ≡ rest_at (is_from unit) items 0

  moved : (P R : List ℕ) (i : ℕ) (b : Bool) → (if b then P ++ i ∷ [] else P) ++ R ≡ P ++ (if b then i ∷ R else R)
  moved P R i true = append_assoc P (i ∷ []) R
  moved P R i false = refl

  one_found : (places : PlaceMap) (name : List ℕ) (i : ℕ) (x : A) → i < length items → x ≡ get_or items i x → origin x ≡ One name → Finds places i → Finds (with_place places name i) (i + 1)
  one_found places name i x lt is from so unit =
      ap (λ (ps : List ℕ). ps ++ rest_at (is_from unit) items (i + 1)) (at-with places name i unit)
      ∙ moved (places_at places unit) (rest_at (is_from unit) items (i + 1)) i (bytes_eq unit name)
      ∙ ap (λ (o : Origin). places_at places unit ++ (if is_unit unit o then i ∷ rest_at (is_from unit) items (i + 1) else rest_at (is_from unit) items (i + 1))) (sym from)
      ∙ ap (λ (ps : List ℕ). places_at places unit ++ ps) (sym (next (is_from unit) items i x lt is))
      ∙ so unit

  none : (places : PlaceMap) (i : ℕ) (x : A) → i < length items → x ≡ get_or items i x → ((unit : List ℕ) → is_from unit x ≡ false) → Finds places i → Finds places (i + 1)
  none places i x lt is from so unit =
      ap (λ (b : Bool). places_at places unit ++ (if b then i ∷ rest_at (is_from unit) items (i + 1) else rest_at (is_from unit) items (i + 1))) (sym (from unit))
      ∙ ap (λ (ps : List ℕ). places_at places unit ++ ps) (sym (next (is_from unit) items i x lt is))
      ∙ so unit

  step : (places : PlaceMap) (i : ℕ) (x : A) (o : Origin) → i < length items → x ≡ get_or items i x → origin x ≡ o → Finds places i → Finds (with_origin places o i) (i + 1)
  step places i x (One name) lt is from so = one_found places name i x lt is from so
  step places i x Several lt is from so = none places i x lt is (λ unit. ap (is_unit unit) from) so
  step places i x Missing lt is from so = none places i x lt is (λ unit. ap (is_unit unit) from) so

  -- before the first, and one more
  pub begins : (places : PlaceMap) → places ≡ fin.empty → Finds places 0
  begins places is unit = ap (λ (ps : List ℕ). ps ++ rest_at (is_from unit) items 0) (ap (λ (m : PlaceMap). places_at m unit) is ∙ at-empty unit)

  pub goes_on : (old new : PlaceMap) (i : ℕ) (x : A) (o : Origin) → i < length items → x ≡ get_or items i x → o ≡ origin x → new ≡ with_origin old o i → Finds old i → Finds new (i + 1)
  goes_on old new i x o lt is from e so = subst (λ (m : PlaceMap). Finds m (i + 1)) (sym e) (step old i x o lt is (sym from) so)

-- ---- a map in memory, after places were changed in their place

insert_same : {X : Type 0} (m : FinMap (slice_cmp nat_cmp) X) (name : List ℕ) (x : X) → fin.get m name ≡ Some x → fin.insert m name x ≡ m
insert_same {X} m name x is = same_map nat_list_cmp_total exact_names _ _ (λ q. get-insert nat_list_cmp_total m name x q ∙ there q (eq_by_cmp (slice_cmp nat_cmp) q name) refl)
  where
    there : (q : List ℕ) (b : Bool) → eq_by_cmp (slice_cmp nat_cmp) q name ≡ b → cond b (Some x) (fin.get m q) ≡ fin.get m q
    there q true e = sym is ∙ ap (fin.get m) (sym (same_name q name e))
    there q false e = refl

module _ (old new : BTreeMap (String Global) (List ℕ)) (name : List ℕ) (held : List ℕ) (there : tree.get_by_text old name ≡ Some held) where
  place_there : fin.get (places_of old) name ≡ Some held
  place_there = get-shown old name ∙ there

  -- what the map is once the places in it end as these
  abbrev Ends : List ℕ → Type 0
  Ends now = IsSome (tree.get_by_text old name) → UpdatesBy string_cmp (λ k. slice_cmp nat_cmp name (string_bytes k)) old new (Some now)

  changed : (now more : List ℕ) → now ≡ more → Ends now → places_of new ≡ fin.insert (places_of old) name more
  changed now more is ends = shown-insert old new name now (ends (ap is_some there)) ∙ ap (fin.insert (places_of old) name) is

  pub unchanged : (now : List ℕ) → now ≡ held → Ends now → places_of new ≡ places_of old
  unchanged now is ends = changed now held is ends ∙ insert_same (places_of old) name held place_there

  pub one_more : (place : ℕ) (now : List ℕ) → now ≡ held ++ place ∷ [] → Ends now → places_of new ≡ with_place (places_of old) name place
  one_more place now is ends = changed now (held ++ place ∷ []) is ends ∙ ap (λ (o : Option (List ℕ)). fin.insert (places_of old) name (or_none o ++ place ∷ [])) (sym place_there)

-- what follows on each way out of a call
pub on_ok : {A E P Q : Type 0} (result : Result A E) → (P → Q) → OnOk result P → OnOk result Q
on_ok (Ok value) f p = f p
on_ok (Err fault) f p = tt

pub on_err : {A E P Q : Type 0} (result : Result A E) → (P → Q) → OnErr result P → OnErr result Q
on_err (Ok value) f p = tt
on_err (Err fault) f p = f p
