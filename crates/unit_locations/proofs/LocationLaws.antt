-- Locations stay.
use Rattle.std.proofs.Common.{◌≡◌, ℕ, Bool, true, false, cond, ◌||◌, List, Option, Some, None, is_some, refl, sym, ap, ◌∙◌, true≢false}
use Rattle.std.specs.Option.{option_and_then, option_or}
use Rattle.std.specs.Ordering.{nat_cmp, eq_by_cmp}
use Rattle.std.specs.Cmp.Lexicographic.{slice_cmp, nat_list_cmp_total}
use Rattle.std.specs.FinMap as fin
use Rattle.std.specs.FinMap.{FinMap, get-insert}
use Rattle.apt_base.specs.declared.element.ElementRef.{ElementRef}
use Rattle.decl_tree.specs.declared.compilation.UnitText.{UnitText}
use Rattle.element_table.specs.declared.part.Part.{Part}
use Rattle.element_table.specs.declared.part.Part.TheVariants.{Source, Stub}
use Rattle.element_table.specs.UnitNames.{unit_name}
use Rattle.element_table.specs.TypeTable.{TypeTable, has_unit, unit_of, entered}
use Rattle.unit_locations.specs.declared.location.UnitLocation.{UnitLocation}
use Rattle.unit_locations.specs.LocatedTable.{Location, LocatedTable, location_in, location_of, entered_at, LocationsStay}
use Rattle.unit_locations.proofs.LocatedLemmas.{same_name}

-- by what is found under the name
abbrev location_by : Option UnitText → Option UnitLocation → List ℕ → Option Location
location_by unit at path = option_and_then (λ found. option_and_then (location_in found path) at) unit

other_kept : {X : Type 0} (m : FinMap (slice_cmp nat_cmp) X) (name q : List ℕ) (v : X) → eq_by_cmp (slice_cmp nat_cmp) q name ≡ false → fin.get (fin.insert m name v) q ≡ fin.get m q
other_kept m name q v other = get-insert nat_list_cmp_total m name v q ∙ ap (λ b. cond b (Some v) (fin.get m q)) other

neither : (a b : Option UnitText) → (is_some a || is_some b) ≡ false → option_or a b ≡ None
neither None None e = refl
neither None (Some y) e = absurd (true≢false e)
neither (Some x) b e = absurd (true≢false e)

other_unit : (part : Part) (unit : UnitText) (table : TypeTable) (q : List ℕ) → eq_by_cmp (slice_cmp nat_cmp) q (unit_name unit) ≡ false → unit_of (entered part unit table) q ≡ unit_of table q
other_unit Source unit table q other = ap (λ found. option_or found (fin.get table.stub q)) (other_kept table.source (unit_name unit) q unit other)
other_unit Stub unit table q other = ap (λ found. option_or (fin.get table.source q) found) (other_kept table.stub (unit_name unit) q unit other)

pub locations-stay : LocationsStay
locations-stay part unit at t absent element there is = go (eq_by_cmp (slice_cmp nat_cmp) element.unit (unit_name unit)) refl
  where
    go : (b : Bool) → eq_by_cmp (slice_cmp nat_cmp) element.unit (unit_name unit) ≡ b → location_of (entered_at part unit at t) element ≡ Some there
    go true same =
        let gone : unit_of t.table element.unit ≡ None = neither (fin.get t.table.source element.unit) (fin.get t.table.stub element.unit) (ap (has_unit t.table) (same_name element.unit (unit_name unit) same) ∙ absent) in
        absurd (true≢false (sym (ap is_some (sym (ap (λ found. location_by found (fin.get t.locations element.unit) element.path) gone) ∙ is))))
    go false other =
        ap (λ found. location_by found (fin.get (entered_at part unit at t).locations element.unit) element.path) (other_unit part unit t.table element.unit other)
        ∙ ap (λ found. location_by (unit_of t.table element.unit) found element.path) (other_kept t.locations (unit_name unit) element.unit at other)
        ∙ is
