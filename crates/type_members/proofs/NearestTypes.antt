-- The supertype of an element by levels: the first one of a level, or else that of the next level.
use Rattle.std.proofs.Common.{◌≡◌, ℕ, zero, suc, ◌-◌, List, ◌<◌, map, Option, None, Some, refl, sym, ap, ◌∙◌, arith}
use Rattle.std.specs.Prelude.{find}
use Rattle.std.specs.Option.{option_and_then, option_or}
use Rattle.apt_base.specs.declared.element.ElementRef.{ElementRef}
use Rattle.element_table.specs.TypeTable.{TypeTable}
use Rattle.type_mirror.specs.declared.mirror.Mirror.{Mirror}
use Rattle.type_numbers.specs.Numbers.{at, OptionStands}
use Rattle.type_members.specs.MemberNumbers.{first_at, nearest_at}
use Rattle.type_members.specs.MemberOf.{is_of, further, nearest}
use Rattle.type_members.specs.NearestLevels.{MayBeLevel, next_level}
use Rattle.type_members.proofs.LevelsOfAlike.{same_nearest}

-- ---- one that may be absent

pub none_stands : (t : List Mirror) (m : Option Mirror) → m ≡ None → OptionStands t None m
none_stands t m e = record { known = tt; type = sym e }

-- ---- the nearest one

module _ (table : TypeTable) (element : ElementRef) where
  -- it is the nearest one
  pub nearest_found : (n : ℕ) (types : List Mirror) (m : Mirror) → find (is_of element) types ≡ Some m → nearest table element n types ≡ Some m
  unfolding nearest
  nearest_found zero types m e = e
  nearest_found (suc n) types m e = ap (λ o. option_or o (option_and_then (nearest table element n) (further table types))) e

  pub nearest_last : (types : List Mirror) → find (is_of element) types ≡ None → nearest table element zero types ≡ None
  unfolding nearest
  nearest_last types e = e

  pub nearest_further : (n : ℕ) (types : List Mirror) → find (is_of element) types ≡ None
      → nearest table element (suc n) types ≡ option_and_then (nearest table element n) (further table types)
  unfolding nearest
  nearest_further n types e = ap (λ o. option_or o (option_and_then (nearest table element n) (further table types))) e

  pub found_stands : (t : List Mirror) (level : List ℕ) (n found : ℕ) → OptionStands t (Some found) (first_at t element level)
      → OptionStands t (Some found) (nearest_at table t element n level)
  found_stands t level n found stands =
      record { known = stands.known; type = sym (nearest_found n (map (at t) level) (at t found) (sym stands.type)) }

  pub none_at_last : (t : List Mirror) (level : List ℕ) (n : ℕ) → n ≡ 0 → OptionStands t None (first_at t element level)
      → OptionStands t None (nearest_at table t element n level)
  none_at_last t level n e stands =
      none_stands t _ (ap (λ (k : ℕ). nearest table element k (map (at t) level)) e ∙ nearest_last (map (at t) level) (sym stands.type))

  -- ---- with one step more

  one_less : (n : ℕ) → 0 < n → n ≡ suc (n - 1)
  one_less n some = omega arith

  steps_left : (t : List Mirror) (level : List ℕ) (n : ℕ) → 0 < n → OptionStands t None (first_at t element level)
      → nearest_at table t element n level ≡ option_and_then (nearest table element (n - 1)) (next_level table t level)
  steps_left t level n some stands =
      ap (λ (k : ℕ). nearest table element k (map (at t) level)) (one_less n some) ∙ nearest_further (n - 1) (map (at t) level) (sym stands.type)

  pub open_level : (t t' : List Mirror) (level : List ℕ) (n : ℕ) → 0 < n → OptionStands t None (first_at t element level)
      → MayBeLevel t' None (next_level table t level) → OptionStands t' None (nearest_at table t element n level)
  open_level t t' level n some stands may =
      none_stands t' _ (steps_left t level n some stands ∙ by (next_level table t level) may)
    where
      by : (o : Option (List Mirror)) → MayBeLevel t' None o → option_and_then (nearest table element (n - 1)) o ≡ None
      by None may = refl
      by (Some types) may = absurd may

  pub next_nearest : (t t' : List Mirror) (level next : List ℕ) (n : ℕ) → 0 < n → OptionStands t None (first_at t element level)
      → MayBeLevel t' (Some next) (next_level table t level) → nearest_at table t' element (n - 1) next ≡ nearest_at table t element n level
  next_nearest t t' level next n some stands may = sym (steps_left t level n some stands ∙ by (next_level table t level) may)
    where
      by : (o : Option (List Mirror)) → MayBeLevel t' (Some next) o → option_and_then (nearest table element (n - 1)) o ≡ nearest_at table t' element (n - 1) next
      by None may = absurd may
      by (Some types) may = sym (same_nearest table element (n - 1) (map (at t') next) types may.alike)
