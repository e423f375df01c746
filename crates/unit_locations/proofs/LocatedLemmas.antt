-- What a located table has under its names.
use Rattle.std.proofs.Common.{◌≡◌, ℕ, Bool, true, false, cond, ◌||◌, T, List, map, Option, Some, None, Err, String, string_bytes, is_some, refl, sym, ap, subst₂, ◌∙◌}
use Rattle.std.specs.BTreeMap.{BTreeMap, get_by_text, UpdatesBy}
use Rattle.std.specs.String.{string_cmp}
use Rattle.std.specs.Ordering.{nat_cmp, eq_by_cmp}
use Rattle.std.specs.Cmp.Lexicographic.{slice_cmp, nat_list_cmp_total, nat_list_eq_equiv}
use Rattle.std.specs.FinMap as fin
use Rattle.std.specs.FinMap.{FinMap, get-insert, get-remove, get-empty}
use Rattle.std.specs.Str.{bytes_eq}
use Rattle.std.specs.declared.alloc.Global.{Global}
use Rattle.std.proofs.lemmas.Map.Text.{btree_map_updates_text, is_eq-slice_cmp}
use Rattle.std.proofs.lemmas.Slice.Eq.{bytes_eq-Decides}
use Rattle.decl_tree.specs.declared.compilation.UnitText.{UnitText}
use Rattle.name_index.proofs.TextMaps.{shown, same_shown, get-shown}
use Rattle.element_table.specs.declared.fault.EnterFault.TheVariants.{Duplicate}
use Rattle.element_table.specs.declared.part.Part.{Part}
use Rattle.element_table.specs.declared.part.Part.TheVariants.{Source, Stub}
use Rattle.element_table.specs.UnitNames.{unit_name}
use Rattle.element_table.specs.TypeTable.{TypeTable, empty_table, entered, has_unit, part_of, answer_to, Answers}
use Rattle.unit_locations.specs.declared.location.UnitLocation.{UnitLocation}
use Rattle.unit_locations.specs.LocatedTable.{LocatedTable, Locations, located, nothing_located, IsLocated, entered_at}

-- ---- maps from names

pub same_name : (q name : List ℕ) → eq_by_cmp (slice_cmp nat_cmp) q name ≡ true → q ≡ name
same_name q name e = (bytes_eq-Decides q name).0 (sym (is_eq-slice_cmp q name) ∙ e)

module _ {X : Type 0} where
  -- a value is taken away
  pub shown-remove : (m n : BTreeMap (String Global) X) (name : List ℕ) → UpdatesBy string_cmp (λ k. slice_cmp nat_cmp name (string_bytes k)) m n None → shown n ≡ fin.remove (shown m) name
  shown-remove m n name u = same_shown _ _ (λ q.
      get-shown n q ∙ btree_map_updates_text name m n None u q
      ∙ ap (λ b. cond b None (get_by_text m q)) (nat_list_eq_equiv.symm name q ∙ sym (is_eq-slice_cmp q name))
      ∙ ap (cond (eq_by_cmp (slice_cmp nat_cmp) q name) None) (sym (get-shown m q)) ∙ sym (get-remove nat_list_cmp_total (shown m) name q))

  some_or : (b : Bool) (v : X) (o : Option X) → is_some (cond b (Some v) o) ≡ (b || is_some o)
  some_or true v o = refl
  some_or false v o = refl

  contains-insert : (m : FinMap (slice_cmp nat_cmp) X) (name : List ℕ) (v : X) (q : List ℕ) → fin.contains_key (fin.insert m name v) q ≡ (bytes_eq q name || fin.contains_key m q)
  contains-insert m name v q =
      ap is_some (get-insert nat_list_cmp_total m name v q) ∙ some_or (eq_by_cmp (slice_cmp nat_cmp) q name) v (fin.get m q)
      ∙ ap (λ (b : Bool). b || fin.contains_key m q) (is_eq-slice_cmp q name)

  back : (m : FinMap (slice_cmp nat_cmp) X) (name q : List ℕ) (v : X) → fin.get m name ≡ None → (b : Bool) → eq_by_cmp (slice_cmp nat_cmp) q name ≡ b → cond b None (cond b (Some v) (fin.get m q)) ≡ fin.get m q
  back m name q v absent true e = sym (ap (fin.get m) (same_name q name e) ∙ absent)
  back m name q v absent false e = refl

  -- a value that was put under a name without one is taken away
  pub remove-insert : (m : FinMap (slice_cmp nat_cmp) X) (name : List ℕ) (v : X) → fin.get m name ≡ None → fin.remove (fin.insert m name v) name ≡ m
  remove-insert m name v absent = same_shown _ _ (λ q.
      get-remove nat_list_cmp_total (fin.insert m name v) name q
      ∙ ap (cond (eq_by_cmp (slice_cmp nat_cmp) q name) None) (get-insert nat_list_cmp_total m name v q)
      ∙ back m name q v absent (eq_by_cmp (slice_cmp nat_cmp) q name) refl)

  pub none : (o : Option X) → is_some o ≡ false → o ≡ None
  none None e = refl
  none (Some x) e = absurd (cc)

-- ---- the names of both are the same

abbrev pub no_units : FinMap (slice_cmp nat_cmp) UnitText
no_units = fin.empty

abbrev pub no_locations : FinMap (slice_cmp nat_cmp) UnitLocation
no_locations = fin.empty

pub located-nothing : IsLocated nothing_located
unfolding IsLocated
located-nothing q =
    let none : fin.contains_key no_locations q ≡ false = ap is_some (get-empty (slice_cmp nat_cmp) q) in
    let neither : fin.contains_key no_units q ≡ false = ap is_some (get-empty (slice_cmp nat_cmp) q) in
    none ∙ sym (λ i. neither i || neither i)

or_left : (a b c : Bool) → (a || (b || c)) ≡ ((a || b) || c)
or_left true b c = refl
or_left false b c = refl

or_middle : (a b c : Bool) → (a || (b || c)) ≡ (b || (a || c))
or_middle true true c = refl
or_middle true false c = refl
or_middle false b c = refl

pub located-entered : (part : Part) (unit : UnitText) (at : UnitLocation) (t : LocatedTable) → IsLocated t → IsLocated (entered_at part unit at t)
unfolding IsLocated
located-entered Source unit at t same q =
    contains-insert t.locations (unit_name unit) at q
    ∙ ap (λ (b : Bool). bytes_eq q (unit_name unit) || b) (same q)
    ∙ or_left (bytes_eq q (unit_name unit)) (fin.contains_key t.table.source q) (fin.contains_key t.table.stub q)
    ∙ ap (λ (b : Bool). b || fin.contains_key t.table.stub q) (sym (contains-insert t.table.source (unit_name unit) unit q))
located-entered Stub unit at t same q =
    contains-insert t.locations (unit_name unit) at q
    ∙ ap (λ (b : Bool). bytes_eq q (unit_name unit) || b) (same q)
    ∙ or_middle (bytes_eq q (unit_name unit)) (fin.contains_key t.table.source q) (fin.contains_key t.table.stub q)
    ∙ ap (λ (b : Bool). fin.contains_key t.table.source q || b) (sym (contains-insert t.table.stub (unit_name unit) unit q))

-- the same in the parts of a table
pub located-new : (table : TypeTable) (locations : Locations) → table ≡ empty_table → locations ≡ fin.empty → IsLocated (located table locations)
located-new table locations is empty = subst₂ (λ t l. IsLocated (located t l)) (sym is) (sym empty) located-nothing

pub located-same : (table now : TypeTable) (locations after : Locations) → IsLocated (located table locations) → now ≡ table → after ≡ locations → IsLocated (located now after)
located-same table now locations after same is stays = subst₂ (λ t l. IsLocated (located t l)) (sym is) (sym stays) same

pub located-grown : (part : Part) (unit : UnitText) (at : UnitLocation) (name : List ℕ) (table now : TypeTable) (locations after : Locations) → IsLocated (located table locations) → name ≡ unit_name unit
    → now ≡ entered part unit table → after ≡ fin.insert locations name at → IsLocated (located now after)
located-grown part unit at name table now locations after same named is more =
    subst₂ (λ t l. IsLocated (located t l)) (sym is) (sym (more ∙ ap (λ n. fin.insert locations n at) named)) (located-entered part unit at (located table locations) same)

-- ---- the part of a name

part_by : (source stub : Bool) → is_some (cond source (Some Source) (cond stub (Some Stub) None)) ≡ (source || stub)
part_by true stub = refl
part_by false true = refl
part_by false false = refl

-- it is in a part where the table has it
pub some-part : (table : TypeTable) (name : List ℕ) → is_some (part_of table name) ≡ has_unit table name
some-part table name = part_by (fin.contains_key table.source name) (fin.contains_key table.stub name)

-- what is in no part has no location
pub not-located : (t : LocatedTable) (name : List ℕ) → IsLocated t → is_some (part_of t.table name) ≡ false → fin.get t.locations name ≡ None
unfolding IsLocated
not-located t name same absent = none (fin.get t.locations name) (same name ∙ sym (some-part t.table name) ∙ absent)

-- a unit whose name is in a part is there already
pub is-there : (table : TypeTable) (unit : UnitText) → is_some (part_of table (unit_name unit)) ≡ true → Answers (answer_to table unit) (Err (Duplicate unit))
unfolding answer_to
is-there table unit there = there_by _ (sym (some-part table (unit_name unit)) ∙ there)
  where
    there_by : {A : Type 0} {b : Bool} {x : A} (y : A) → b ≡ true → cond b x y ≡ x
    there_by {A} {b} {x} y e = λ i. cond (e i) x y
